-- The groups of held pages are planned, and their parts are the pieces.
use Rattle.std.proofs.Common.{◌<◌, length, sym, subst}
use Rattle.std.specs.List.{All}
use Rattle.std.specs.List.Sorted.{IsNonDecreasingBy}
use Rattle.pieces.specs.Phases.{IsPiece}
use Rattle.holdings.specs.declared.pages.HeldPage.{HeldPage}
use Rattle.holdings.specs.Places.{any_of}
use Rattle.holdings.specs.Inner.Held.{limits_in}
use Rattle.holdings.specs.Inner.StripPlans.{ArePagesPlanned}
use Rattle.holdings.proofs.Stripping.HeldPages.{any_within}
use Rattle.holdings.proofs.Planned.Plan.{strip_planned, page_frames}
use Rattle.holdings.proofs.planning.plan_strip.Goals as goal

pub plan_pages-requires-clause-sorted : goal.plan_pages-requires-clause-sorted
plan_pages-requires-clause-sorted g c = subst (IsNonDecreasingBy (λ (h : HeldPage). h.frame)) (sym c.deref.ensures.value) c.in_ok-pages.ensures.sorted

pub plan_pages-requires-clause-frames : goal.plan_pages-requires-clause-frames
plan_pages-requires-clause-frames g c =
    let trees = c.args.trees.now in
    subst (All (λ (h : HeldPage). h.frame < length trees)) (sym c.deref.ensures.value)
    (page_frames c.args.shards.now trees c.requires.sound (any_of c.args.places.now) c.in_ok-pages.pages.items c.in_ok-pages.ensures.held (any_within (limits_in c.args.shards.now trees) c.args.places.now c.requires.within))

pub returns : goal.returns
returns g c =
    let s = c.args.shards.now in
    let trees = c.args.trees.now in
    let pages = c.in_ok-pages.pages.items in
    let plan = c.in_ok-plan.plan in
    let planned : ArePagesPlanned s trees c.args.revoked c.args.flush pages plan = subst (λ hs. ArePagesPlanned s trees c.args.revoked c.args.flush hs plan) c.deref.ensures.value c.in_ok-plan.ensures in
    record {
      pages = pages;
      runs = planned.runs;
      plans = planned.strips.plans;
      planned = planned.strips.planned;
      strip = strip_planned s trees c.requires.sound (any_of c.args.places.now) pages plan.frames.items planned.strips.plans c.in_ok-pages.ensures.held planned.runs planned.strips.planned;
      pieces_are = planned.strips.items;
      pieces = subst (All IsPiece) c.deref-2.ensures.value c.learn_are_pieces.ensures;
    }
