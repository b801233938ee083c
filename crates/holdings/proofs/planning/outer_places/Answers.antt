-- The groups of held pages, whose first places stand for them.
use Rattle.std.proofs.Common.{◌≡◌, ◌<◌, List, length, sym, subst}
use Rattle.std.specs.List.{All}
use Rattle.std.proofs.lemmas.Result.{IfOk-weaker}
use Rattle.std.specs.List.Sorted.{IsNonDecreasingBy}
use Rattle.holdings.specs.declared.pages.HeldPage.{HeldPage}
use Rattle.pieces.specs.declared.runs.FrameRuns.{FrameRuns}
use Rattle.holdings.specs.Places.{any_of}
use Rattle.holdings.specs.Inner.Held.{limits_in}
use Rattle.maptree.specs.Origins.{Shape}
use Rattle.holdings.specs.Inner.StripPlans.{AreFrameRuns, AreOuterPlaces, all_firsts}
use Rattle.holdings.proofs.Stripping.HeldPages.{any_within}
use Rattle.holdings.proofs.Planned.Plan.{page_frames, have_runs}
use Rattle.holdings.proofs.Planned.Outermost.{outer_are}
use Rattle.holdings.proofs.planning.outer_places.Goals as goal

pub runs_by_frame-requires-clause-sorted : goal.runs_by_frame-requires-clause-sorted
runs_by_frame-requires-clause-sorted c = subst (IsNonDecreasingBy (λ (h : HeldPage). h.frame)) (sym c.deref.ensures.value) c.in_ok-pages.ensures.sorted

pub runs_by_frame-requires-clause-frames : goal.runs_by_frame-requires-clause-frames
runs_by_frame-requires-clause-frames c =
    let trees = c.args.trees.now in
    subst (All (λ (h : HeldPage). h.frame < length trees)) (sym c.deref.ensures.value)
    (page_frames c.args.shards.now trees c.requires.sound (any_of c.args.places.now) c.in_ok-pages.pages.items c.in_ok-pages.ensures.held (any_within (limits_in c.args.shards.now trees) c.args.places.now c.requires.within))

-- the groups, as they are read
groups_of : (trees : List Shape) (pages read : List HeldPage) (fs shown : List FrameRuns) → read ≡ pages → shown ≡ fs → AreFrameRuns trees read fs → AreFrameRuns trees pages shown
groups_of trees pages read fs shown same is are = subst (AreFrameRuns trees pages) (sym is) (subst (λ hs. AreFrameRuns trees hs fs) same are)

pub first_places-requires : goal.first_places-requires
first_places-requires c =
    let groups = groups_of c.args.trees.now c.in_ok-pages.pages.items c.deref.result.now c.in_ok-frames.frames.items c.deref-2.result.now c.deref.ensures.value c.deref-2.ensures.value c.in_ok-frames.ensures in
    have_runs c.args.trees.now c.in_ok-pages.pages.items c.deref-2.result.now groups

pub returns : goal.returns
returns c =
    let s = c.args.shards.now in
    let trees = c.args.trees.now in
    let places = c.args.places.now in
    let pages = c.in_ok-pages.pages.items in
    let fs = c.deref-2.result.now in
    let groups = groups_of trees pages c.deref.result.now c.in_ok-frames.frames.items fs c.deref.ensures.value c.deref-2.ensures.value c.in_ok-frames.ensures in
    IfOk-weaker c.first_places.result (λ outer. outer.items ≡ all_firsts trees fs) (λ outer. AreOuterPlaces s trees places outer.items)
    (λ outer is. subst (AreOuterPlaces s trees places) (sym is) (outer_are s trees c.requires.sound places pages fs c.in_ok-pages.ensures.held groups)) c.first_places.ensures
