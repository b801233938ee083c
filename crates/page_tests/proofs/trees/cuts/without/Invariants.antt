-- The nodes so far, without those at the places.
use Rattle.std.proofs.Common.{◌≡◌, not, take}
use Rattle.std.specs.List.{filter, list_any}
use Rattle.space.specs.Place.{same_place}
use Rattle.page_tests.proofs.trees.cuts.without.Given as goal

abbrev pub invariant-loop-node : goal.invariant-loop-node
invariant-loop-node l = l.kept.items ≡ filter (λ n. not (list_any (λ q. same_place q n.place) l.gone)) (take l.node-index l.nodes)
