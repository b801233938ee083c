-- The strip is planned and worked as one phase, and then the trees are pruned.
use Rattle.std.proofs.Common.{◌≡◌, ◌<◌, List, length, rules, sym, ◌∙◌, subst, arith}
use Rattle.std.specs.Vec.{with_items}
use Rattle.std.proofs.lemmas.Bool.{eqb-true}
use Rattle.std.proofs.lemmas.List.{with_items_is}
use Rattle.fpage.specs.declared.rights.Rights.{Rights}
use Rattle.space.specs.declared.shards.Shards.{Shards}
use Rattle.space.specs.Slices.{nodes_of}
use Rattle.maptree.specs.Origins.{Shape}
use Rattle.space.specs.declared.slice.Slice.{Slice}
use Rattle.model.specs.Definitions.Strip.{strip}
use Rattle.std.specs.Prelude.{IsErrOf}
use Rattle.crew.specs.declared.error.CrewError.TheVariants.{NoWorker}
use Rattle.holdings.specs.Contents.{Contents, IsStripped}
use Rattle.holdings.specs.Observing.{IsPhaseOf}
use Rattle.holdings.specs.Places.{any_of}
use Rattle.holdings.specs.Inner.Held.{contents_of}
use Rattle.holdings.specs.Inner.Sound.{AreSound}
use Rattle.holdings.specs.Inner.StripPlans.{IsPlanned, AllCanBePruned, AreKeptNodes, ArePruned}
use Rattle.pieces.specs.declared.runs.FrameRuns.{FrameRuns}
use Rattle.pieces.specs.declared.runs.StripPlan.{StripPlan}
use Rattle.holdings.proofs.Planned.StripPhase.{plan_can, plan_can_prune, plan_keeps, plan_left, plan_stripped, nothing_stripped}
use Rattle.holdings.proofs.Planned.Observed.{plan_phase}
use Rattle.holdings.proofs.holdings.Holdings.strip_in_pieces.Goals as goal

-- the plan, of the trees as they are read
planned : (s : Shards) (trees read : List Shape) (set : _) (a : Rights) (flush : _) (plan : StripPlan) → read ≡ trees → IsPlanned s read set a flush plan → IsPlanned s trees set a flush plan
planned s trees read set a flush plan same is = subst (λ ts. IsPlanned s ts set a flush plan) same is

pub returns-then-is_empty-clause-stripped : goal.returns-then-is_empty-clause-stripped
returns-then-is_empty-clause-stripped g c =
    let d = c.self.inside in
    let is = planned d.shards d.trees.items c.deref.result.now (any_of c.args.places.now) c.args.revoked c.args.flush c.in_ok-plan.plan c.deref.ensures.value c.in_ok-plan.ensures in
    let empty = eqb-true c.in_ok-plan.plan.pieces.len 0 (sym c.is_empty.ensures ∙ c.if-is_empty.true) in
    subst (λ (old : Contents). IsStripped old (any_of c.args.places.now) c.args.revoked c.args.flush (contents_of d.shards d.trees.items, c.none.result)) c.self.view_is
    (subst (λ r. IsStripped (contents_of d.shards d.trees.items) (any_of c.args.places.now) c.args.revoked c.args.flush (contents_of d.shards d.trees.items, r)) (sym c.none.ensures)
    (nothing_stripped d.shards d.trees.items c.self.invariant (any_of c.args.places.now) c.args.revoked c.args.flush c.in_ok-plan.plan is (sym c.in_ok-plan.plan.pieces.ok.0 ∙ empty)))

pub work_phase_by-requires-clause-may : goal.work_phase_by-requires-clause-may
work_phase_by-requires-clause-may g c words are =
    let d = c.self.inside in
    let set = any_of c.args.places.now in
    let is = planned d.shards d.trees.items c.deref.result.now set c.args.revoked c.args.flush c.in_ok-plan.plan c.deref.ensures.value c.in_ok-plan.ensures in
    let some : 0 < length c.in_ok-plan.plan.pieces.items = search rules in
    c.requires.may words c.in_ok-plan.plan.pieces
    (subst (λ (old : Contents). IsPhaseOf old.layout old.holdings (strip old.holdings set c.args.revoked c.args.flush) words.items c.in_ok-plan.plan.pieces.items) c.self.view_is
    (plan_phase d.shards d.trees.items c.self.invariant set c.args.revoked c.args.flush c.in_ok-plan.plan is some words.items are))

pub work_phase_by-requires-clause-does : goal.work_phase_by-requires-clause-does
work_phase_by-requires-clause-does g c words r are post =
    let d = c.self.inside in
    let is = planned d.shards d.trees.items c.deref.result.now (any_of c.args.places.now) c.args.revoked c.args.flush c.in_ok-plan.plan c.deref.ensures.value c.in_ok-plan.ensures in
    let some : 0 < length c.in_ok-plan.plan.pieces.items = search rules in
    c.requires.does words c.in_ok-plan.plan.pieces r some (plan_can d.shards d.trees.items c.self.invariant (any_of c.args.places.now) c.args.revoked c.args.flush c.in_ok-plan.plan is words.items are) post

pub prune_gone-requires-clause-can : goal.prune_gone-requires-clause-can
prune_gone-requires-clause-can g c =
    let d = c.self.inside in
    let is = planned d.shards d.trees.items c.deref.result.now (any_of c.args.places.now) c.args.revoked c.args.flush c.in_ok-plan.plan c.deref.ensures.value c.in_ok-plan.ensures in
    let can = plan_can_prune d.shards d.trees.items c.self.invariant (any_of c.args.places.now) c.args.revoked c.args.flush c.in_ok-plan.plan is c.work_phase_by.new.shards c.in_ok-found.found c.in_ok-found.ensures.worked in
    subst (AllCanBePruned c.work_phase_by.new.shards c.deref_mut.result.now) (sym c.deref-2.ensures.value)
    (subst (λ (ts : List Shape). AllCanBePruned c.work_phase_by.new.shards ts c.in_ok-plan.plan.frames.items) (sym c.deref_mut.ensures.value) can)

-- the nodes that are kept, of the trees and frames as they are read
kept_of_read : (s : Shards) (trees read : List Shape) (fs shown : List FrameRuns) (slices given : List Slice) → read ≡ trees → shown ≡ fs → given ≡ slices → AreKeptNodes s trees fs (nodes_of slices) → AreKeptNodes s read shown (nodes_of given)
kept_of_read s trees read fs shown slices given same is them are =
    subst (λ ks. AreKeptNodes s read shown (nodes_of ks)) (sym them) (subst (λ gs. AreKeptNodes s read gs (nodes_of slices)) (sym is) (subst (λ ts. AreKeptNodes s ts fs (nodes_of slices)) (sym same) are))

pub prune_gone-requires-clause-kept : goal.prune_gone-requires-clause-kept
prune_gone-requires-clause-kept g c =
    let d = c.self.inside in
    let is = planned d.shards d.trees.items c.deref.result.now (any_of c.args.places.now) c.args.revoked c.args.flush c.in_ok-plan.plan c.deref.ensures.value c.in_ok-plan.ensures in
    kept_of_read c.work_phase_by.new.shards d.trees.items c.deref_mut.result.now c.in_ok-plan.plan.frames.items c.deref-2.result.now c.in_ok-found.found.slices.items c.deref-3.result.now c.deref_mut.ensures.value c.deref-2.ensures.value c.deref-3.ensures.value
    (plan_keeps d.shards d.trees.items c.self.invariant (any_of c.args.places.now) c.args.revoked c.args.flush c.in_ok-plan.plan is c.work_phase_by.new.shards c.in_ok-found.found c.in_ok-found.ensures.worked)

-- the trees were pruned
pruned_to : (s : Shards) (trees read left : List Shape) (fs shown : List FrameRuns) → read ≡ trees → shown ≡ fs → ArePruned s shown read left → ArePruned s fs trees left
pruned_to s trees read left fs shown same is are = subst (λ ts. ArePruned s fs ts left) same (subst (λ gs. ArePruned s gs read left) is are)

pub invariant_of-result-2 : goal.invariant_of-result-2
invariant_of-result-2 g c =
    let d = c.self.inside in
    let is = planned d.shards d.trees.items c.deref.result.now (any_of c.args.places.now) c.args.revoked c.args.flush c.in_ok-plan.plan c.deref.ensures.value c.in_ok-plan.ensures in
    let are = pruned_to c.work_phase_by.new.shards d.trees.items c.deref_mut.result.now c.prune_gone.new.trees c.in_ok-plan.plan.frames.items c.deref-2.result.now c.deref_mut.ensures.value c.deref-2.ensures.value c.in_ok-prune_gone.ensures in
    let count : length c.prune_gone.new.trees ≡ d.trees.len = omega (arith, are.count, d.trees.ok.0) in
    subst (AreSound c.work_phase_by.new.shards) (sym (with_items_is d.trees c.prune_gone.new.trees count))
    (plan_left d.shards d.trees.items c.self.invariant (any_of c.args.places.now) c.args.revoked c.args.flush c.in_ok-plan.plan is c.work_phase_by.new.shards c.in_ok-found.found c.in_ok-found.ensures.worked c.prune_gone.new.trees are).sound

pub returns-clause-stripped : goal.returns-clause-stripped
returns-clause-stripped g c =
    let d = c.self.inside in
    let set = any_of c.args.places.now in
    let is = planned d.shards d.trees.items c.deref.result.now set c.args.revoked c.args.flush c.in_ok-plan.plan c.deref.ensures.value c.in_ok-plan.ensures in
    let are = pruned_to c.work_phase_by.new.shards d.trees.items c.deref_mut.result.now c.prune_gone.new.trees c.in_ok-plan.plan.frames.items c.deref-2.result.now c.deref_mut.ensures.value c.deref-2.ensures.value c.in_ok-prune_gone.ensures in
    let count : length c.prune_gone.new.trees ≡ d.trees.len = omega (arith, are.count, d.trees.ok.0) in
    subst (λ (old : Contents). IsStripped old set c.args.revoked c.args.flush (contents_of c.work_phase_by.new.shards (with_items d.trees c.prune_gone.new.trees).items, c.in_ok-found.found.status)) c.self.view_is
    (subst (λ ts. IsStripped (contents_of d.shards d.trees.items) set c.args.revoked c.args.flush (contents_of c.work_phase_by.new.shards ts, c.in_ok-found.found.status)) (sym (with_items_is d.trees c.prune_gone.new.trees count))
    (plan_stripped d.shards d.trees.items c.self.invariant set c.args.revoked c.args.flush c.in_ok-plan.plan is c.work_phase_by.new.shards c.in_ok-found.found c.in_ok-found.ensures.worked c.prune_gone.new.trees are))

pub returns-in_err-found-clause-needs_no_worker : goal.returns-in_err-found-clause-needs_no_worker
returns-in_err-found-clause-needs_no_worker g c never is =
    let no : IsErrOf c.work_phase_by.result NoWorker = search (rules, is) in
    c.work_phase_by.ensures.needs_no_worker (λ words r post. never words c.in_ok-plan.plan.pieces r post) no
