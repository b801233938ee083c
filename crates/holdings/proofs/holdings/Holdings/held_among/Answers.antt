-- The next run, behind pages that are absent.
use Rattle.std.proofs.Common.{◌≡◌, ◌+◌, ◌-◌, ◌^◌, ◌<◌, ◌≤◌, ◌++◌, List, ℕ, [], filter, None, refl, sym, ap, ◌∙◌, subst, arith}
use Rattle.std.proofs.lemmas.List.{append-nil}
use Rattle.space.specs.declared.place.Place.{Place}
use Rattle.space.specs.declared.shards.Shards.{Shards}
use Rattle.space.specs.Directory.{pages_of}
use Rattle.space.specs.Shards.{entry_at}
use Rattle.maptree.specs.Origins.{Shape}
use Rattle.model.specs.Definitions.Holdings.{is_held}
use Rattle.holdings.specs.Contents.{Contents, IsConsistent}
use Rattle.holdings.specs.Places.{pages_from}
use Rattle.holdings.specs.Inner.Held.{has_entry, limits_in, contents_of}
use Rattle.holdings.specs.Inner.Sound.{AreSound}
use Rattle.holdings.proofs.Contents.Consistent.{consistent}
use Rattle.holdings.proofs.Contents.Roots.{pages_few}
use Rattle.holdings.proofs.Contents.HeldAmong.{next_kept, none_held, entries_held}
use Rattle.holdings.proofs.holdings.Holdings.held_among.Goals as goal

module _ (space page next end : ℕ) (from : page ≤ next) (most : next ≤ end) (s : Shards) (trees : List Shape) (held : Contents) (is : contents_of s trees ≡ held) (less : space < held.limits.spaces) (within : end ≤ pages_of held.limits.bits) where
  abbrev pages : List Place
  pages = pages_from space page (next - page)

  less_in : space < (limits_in s trees).spaces
  less_in = subst (λ (h : Contents). space < h.limits.spaces) (sym is) less

  within_in : page + (next - page) ≤ pages_of (limits_in s trees).bits
  within_in = up (pages_of (limits_in s trees).bits) (subst (λ (h : Contents). end ≤ pages_of h.limits.bits) (sym is) within)
    where
      up : (last : ℕ) → end ≤ last → page + (next - page) ≤ last
      up last inside = omega (arith, from, most, inside)

  -- those that have an entry are held
  kept : filter (has_entry s) pages ≡ filter (is_held held.holdings) pages
  kept = entries_held s trees space page (next - page) less_in within_in ∙ ap (λ (h : Contents). filter (is_held h.holdings) pages) is

  -- where none has an entry, none is held
  passed_over : ((p : Place) → p.space ≡ space → page ≤ p.page → p.page < next → entry_at s p ≡ None) → filter (is_held held.holdings) pages ≡ []
  passed_over absent =
      ap (λ (h : Contents). filter (is_held h.holdings) pages) (sym is)
      ∙ none_held s trees space page (next - page) less_in within_in (λ k on. absent (record { space = space; page = page + k }) refl (omega arith) (omega (arith, on)))

pub loop-page-preserved : goal.loop-page-preserved
loop-page-preserved c =
    let s = c.self.inside.shards in
    let trees = c.self.inside.trees.items in
    let held = c.args.self.now in
    let space = c.args.space in
    let page = c.loop-page.page in
    let first = c.first_from-first.result in
    let is = c.first_from-first.ensures in
    let behind = c.min-page.result in
    let end = c.args.pages.end in
    let so_far = c.loop-page.places.items in
    let on : first ≤ behind = omega (arith, c.min-page.ensures, c.page_behind_shard.ensures, is.end) in
    let most : behind ≤ end = omega (arith, c.min-page.ensures) in
    let none = passed_over space page first end is.from is.end s trees held c.self.view_is c.requires.space c.requires.pages is.absent in
    let each = kept space first behind end on most s trees held c.self.view_is c.requires.space c.requires.pages in
    let gap = next_kept (is_held held.holdings) space page first end so_far so_far _ is.from is.end (sym (append-nil so_far) ∙ ap (λ (ps : List Place). so_far ++ ps) (sym none)) c.loop-page.invariant in
    next_kept (is_held held.holdings) space first behind end so_far c.add_held.new.places.items _ on most (c.in_ok-add_held.ensures ∙ ap (λ (ps : List Place). so_far ++ ps) each) gap

-- a space has few pages
few : (s : Shards) (trees : List Shape) (held : Contents) → contents_of s trees ≡ held → AreSound s trees → pages_of held.limits.bits ≤ 2 ^ 20
few s trees held is sound = subst (λ (h : Contents). pages_of h.limits.bits ≤ 2 ^ 20) is (pages_few (limits_in s trees) (consistent s trees sound).served)

pub page_behind_shard-requires : goal.page_behind_shard-requires
page_behind_shard-requires c =
    let most = few c.self.inside.shards c.self.inside.trees.items c.args.self.now c.self.view_is c.self.invariant in
    omega (arith, most, c.requires.pages, c.first_from-first.ensures.end, c.if-first-pages.false)

-- where no further shard is there, no further page is held
pub returns-then-first-pages-clause-held : goal.returns-then-first-pages-clause-held
returns-then-first-pages-clause-held c =
    let is = c.first_from-first.ensures in
    let so_far = c.loop-page.places.items in
    let page = c.loop-page.page in
    let end = c.args.pages.end in
    let all : c.first_from-first.result ≡ end = c.if-first-pages.true in
    let none = passed_over c.args.space page end end (omega (arith, is.from, all)) (omega arith) c.self.inside.shards c.self.inside.trees.items c.args.self.now c.self.view_is c.requires.space c.requires.pages
    (λ p space from below. is.absent p space from (omega (arith, below, all))) in
    ap (λ places. places.items) c.of.ensures ∙ sym (append-nil so_far) ∙ ap (λ (ps : List Place). so_far ++ ps) (sym none) ∙ c.loop-page.invariant

-- what is held is consistent, whatever is returned
pub returns-in_err-add_held-clause-consistent : goal.returns-in_err-add_held-clause-consistent
returns-in_err-add_held-clause-consistent c = subst IsConsistent c.self.view_is (consistent c.self.inside.shards c.self.inside.trees.items c.self.invariant)

pub returns-then-first-pages-clause-consistent : goal.returns-then-first-pages-clause-consistent
returns-then-first-pages-clause-consistent c = subst IsConsistent c.self.view_is (consistent c.self.inside.shards c.self.inside.trees.items c.self.invariant)

pub returns-clause-consistent : goal.returns-clause-consistent
returns-clause-consistent c = subst IsConsistent c.self.view_is (consistent c.self.inside.shards c.self.inside.trees.items c.self.invariant)

pub returns-in_err-places-clause-consistent : goal.returns-in_err-places-clause-consistent
returns-in_err-places-clause-consistent c = subst IsConsistent c.self.view_is (consistent c.self.inside.shards c.self.inside.trees.items c.self.invariant)
