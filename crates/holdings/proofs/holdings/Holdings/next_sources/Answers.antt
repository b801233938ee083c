-- The sources before the next run are absent.
use Rattle.std.proofs.Common.{◌≡◌, ◌∙◌, ℕ, ◌+◌, ◌-◌, ◌/◌, ◌^◌, ◌<◌, ◌≤◌, List, None, sym, ap, subst, arith}
use Rattle.space.specs.declared.place.Place.{Place}
use Rattle.space.specs.declared.shards.Shards.{Shards}
use Rattle.space.specs.Directory.{pages_of}
use Rattle.space.specs.Shards.{entry_at}
use Rattle.maptree.specs.Origins.{Shape}
use Rattle.model.specs.Definitions.Holdings.{at}
use Rattle.holdings.specs.Contents.{Contents, IsConsistent}
use Rattle.holdings.specs.Sending.{page_on}
use Rattle.holdings.specs.Inner.Held.{limits_in, contents_of}
use Rattle.holdings.specs.declared.item_pages.ItemPages.{ItemPages}
use Rattle.holdings.proofs.Contents.Consistent.{consistent}
use Rattle.holdings.specs.Inner.Sound.{AreSound}
use Rattle.holdings.proofs.Contents.Roots.{pages_few}
use Rattle.holdings.proofs.Contents.FromPages.{absent_anywhere}
use Rattle.holdings.proofs.holdings.Holdings.next_sources.Goals as goal

none_before : (s : Shards) (trees : List Shape) (held : Contents) → contents_of s trees ≡ held → (p : ItemPages) (from i page start : ℕ) (first : Place) → first ≡ page_on p.source from
    → ((q : Place) → q.space ≡ first.space → first.page ≤ q.page → q.page < page → entry_at s q ≡ None) → start ≤ page - p.source.page → from ≤ i → i < start → at held.holdings (page_on p.source i) ≡ None
none_before s trees held is p from i page start first at_first absent most after before =
    let q = page_on p.source i in
    let first_page : first.page ≡ p.source.page + from = ap (λ (x : Place). x.page) at_first in
    ap (λ (h : Contents). at h.holdings q) (sym is)
    ∙ absent_anywhere (limits_in s trees) s trees q (absent q (sym (ap (λ (x : Place). x.space) at_first)) (omega (arith, first_page, after)) (omega (arith, most, before)))

-- a space has no more pages than a number of 32 bits counts
few : (s : Shards) (trees : List Shape) (held : Contents) → contents_of s trees ≡ held → AreSound s trees → pages_of held.limits.bits ≤ 2 ^ 20
few s trees held is sound = subst (λ (h : Contents). pages_of h.limits.bits ≤ 2 ^ 20) is (pages_few (limits_in s trees) (consistent s trees sound).served)

pub pair-requires-clause-source : goal.pair-requires-clause-source
pair-requires-clause-source c = omega (arith, few c.self.inside.shards c.self.inside.trees.items c.args.self.now c.self.view_is c.self.invariant, c.requires.pages.source_pages, c.requires.within)

pub pair-requires-clause-target : goal.pair-requires-clause-target
pair-requires-clause-target c = omega (arith, few c.self.inside.shards c.self.inside.trees.items c.args.self.now c.self.view_is c.self.invariant, c.requires.pages.target_pages, c.requires.within)

pub returns-clause-absent : goal.returns-clause-absent
returns-clause-absent c i after before =
    none_before c.self.inside.shards c.self.inside.trees.items c.args.self.now c.self.view_is c.args.pages.now c.args.from i c.next_run-run.result.pages.start (c.next_run-run.result.pages.start - c.args.pages.now.source.page) c.pair.result.0
    (ap (λ (x : Place × Place). x.0) c.pair.ensures) c.next_run-run.ensures.absent (omega arith) after before

pub returns-clause-shard : goal.returns-clause-shard
returns-clause-shard c i after before =
    let source : c.pair.result.0.page ≡ c.args.pages.now.source.page + c.args.from = ap (λ (x : Place × Place). x.0.page) c.pair.ensures in
    let first : c.args.pages.now.source.page + (c.next_run-run.result.pages.start - c.args.pages.now.source.page) ≡ c.next_run-run.result.pages.start = omega (arith, source, c.next_run-run.ensures.from) in
    c.next_run-run.ensures.shard (c.args.pages.now.source.page + i) (omega (arith, first, after)) (omega (arith, before)) ∙ ap (λ n. n / 64) (sym first)

pub returns-clause-consistent : goal.returns-clause-consistent
returns-clause-consistent c = subst IsConsistent c.self.view_is (consistent c.self.inside.shards c.self.inside.trees.items c.self.invariant)
