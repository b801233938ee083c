-- The next page that is held, behind pages that are absent.
use Rattle.std.proofs.Common.{◌≡◌, ℕ, ◌+◌, ◌-◌, ◌<◌, ◌≤◌, ◌++◌, List, [], ◌∷◌, None, filter, IsTrue, refl, sym, ap, ◌∙◌, subst, arith}
use Rattle.std.proofs.lemmas.List.{append-nil}
use Rattle.space.specs.declared.place.Place.{Place}
use Rattle.space.specs.declared.shards.Shards.{Shards}
use Rattle.space.specs.Shards.{entry_at}
use Rattle.holdings.specs.Places.{pages_from}
use Rattle.holdings.specs.Inner.Held.{has_entry}
use Rattle.holdings.proofs.Contents.HeldAmong.{next_kept, none_there, all_there}
use Rattle.holdings.proofs.named.add_held.Goals as goal

module _ (s : Shards) (space page next : ℕ) (on : page ≤ next) where
  -- where none has an entry, none is added
  passed_over : ((p : Place) → p.space ≡ space → page ≤ p.page → p.page < next → entry_at s p ≡ None) → (so_far : List Place) → so_far ≡ so_far ++ filter (has_entry s) (pages_from space page (next - page))
  passed_over absent so_far =
      sym (append-nil so_far)
      ∙ ap (λ (ps : List Place). so_far ++ ps) (sym (none_there s space page (next - page) (λ k less. absent (record { space = space; page = page + k }) refl (omega arith) (omega (arith, less, on)))))

-- a page that has an entry is added
added : (s : Shards) (space page : ℕ) → IsTrue (has_entry s (record { space = space; page = page })) → (so_far : List Place) → so_far ++ (record { space = space; page = page } ∷ []) ≡ so_far ++ filter (has_entry s) (pages_from space page (page + 1 - page))
added s space page there so_far =
    let one : page + 1 - page ≡ 1 = omega arith in
    let here : Place = record { space = space; page = page } in
    ap (λ (ps : List Place). so_far ++ ps)
    (sym (ap (λ n. filter (has_entry s) (pages_from space page n)) one ∙ all_there s space page 1 (λ k less. let first : page ≡ page + k = omega (arith, less) in subst (λ q. IsTrue (has_entry s (record { space = space; page = q }))) first there)))

pub loop-page-preserved : goal.loop-page-preserved
loop-page-preserved c =
    let s = c.args.shards.now in
    let space = c.args.first.space in
    let page = c.loop-page.page in
    let next = c.first_held_of_shard-page.result in
    let is = c.first_held_of_shard-page.ensures in
    let end = c.args.end in
    let so_far = c.loop-page.places.items in
    record {
      from = omega (arith, is.from, c.loop-page.invariant.from);
      upto = is.end;
      pages = next_kept (has_entry s) space page next end so_far so_far _ is.from is.end (passed_over s space page next is.from is.absent so_far) c.loop-page.invariant.pages;
    }

pub loop-page-preserved-then-page-end : goal.loop-page-preserved-then-page-end
loop-page-preserved-then-page-end c =
    let s = c.args.shards.now in
    let space = c.args.first.space in
    let page = c.loop-page.page in
    let next = c.first_held_of_shard-page.result in
    let is = c.first_held_of_shard-page.ensures in
    let end = c.args.end in
    let so_far = c.loop-page.places.items in
    let gap = next_kept (has_entry s) space page next end so_far so_far _ is.from is.end (passed_over s space page next is.from is.absent so_far) c.loop-page.invariant.pages in
    let pushed = c.in_ok-push.ensures.items ∙ added s space next (is.held c.if-page-end.true) so_far in
    record {
      from = omega (arith, is.from, c.loop-page.invariant.from);
      upto = omega (arith, c.if-page-end.true);
      pages = next_kept (has_entry s) space next (next + 1) end so_far _ _ (omega arith) (omega (arith, c.if-page-end.true)) pushed gap;
    }
