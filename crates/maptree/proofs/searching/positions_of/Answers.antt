-- One place more.
use Rattle.std.proofs.Common.{◌+◌, take, sym, ap, ◌∙◌, subst, rules, arith}
use Rattle.std.proofs.lemmas.List.{get_or_default, take_all}
use Rattle.std.proofs.lemmas.List.Sorted.{IsNonDecreasingBy-from_sort}
use Rattle.maptree.specs.Named.{ArePositions}
use Rattle.space.proofs.Lists.{blank}
use Rattle.maptree.proofs.Named.{one_found, one_absent, sorted_positions}
use Rattle.maptree.proofs.searching.positions_of.Goals.{in-Some+in_ok-push, in_default}
use Rattle.maptree.proofs.searching.positions_of.Goals as goal

pub loop-place-preserved : goal.loop-place-preserved
loop-place-preserved c =
    let ns = c.args.nodes.now.nodes in
    let places = c.args.places.now in
    let i = c.loop-place.place-index in
    elim c.match-find.branch [
      | in-Some+in_ok-push w ↦
          subst (ArePositions ns (take (i + 1) places)) (sym (ap (λ v. v.items) w.positions-is ∙ w.in_ok-push.ensures.items))
          (one_found ns c.requires places i _ c.loop-place-test.true (get_or_default places i blank.place _ c.loop-place-test.true) _ w.in-Some.i c.loop-place.invariant (sym c.find.ensures ∙ w.in-Some.is))
      | in_default w ↦
          subst (ArePositions ns (take (i + 1) places)) (sym (ap (λ v. v.items) w.positions-is))
          (one_absent ns c.requires places i _ c.loop-place-test.true (get_or_default places i blank.place _ c.loop-place-test.true) _ c.loop-place.invariant (sym c.find.ensures ∙ w.in_default.is))
    ]

pub returns-clause-positions : goal.returns-clause-positions
returns-clause-positions c =
    let all = take_all c.loop-place.place-index c.args.places.now (search (rules, arith)) in
    sorted_positions c.args.nodes.now.nodes c.args.places.now c.loop-place.positions.items c.sort_unstable.new.self.items
    (subst (λ l. ArePositions c.args.nodes.now.nodes l c.loop-place.positions.items) all c.loop-place.invariant) c.sort_unstable.ensures.permutation

pub returns-clause-rising : goal.returns-clause-rising
returns-clause-rising c = IsNonDecreasingBy-from_sort (λ x. x) c.sort_unstable.new.self.items c.sort_unstable.ensures.sorted
