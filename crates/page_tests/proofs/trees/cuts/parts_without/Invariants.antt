-- The parts so far, without the nodes at the places.
use Rattle.std.proofs.Common.{◌≡◌, not, take}
use Rattle.std.specs.List.{list_any}
use Rattle.space.specs.Place.{same_place}
use Rattle.space.specs.Slices.{nodes_of}
use Rattle.maptree.specs.Cuts.{kept_of}
use Rattle.page_tests.proofs.trees.cuts.parts_without.Given as goal

abbrev pub invariant-loop-part : goal.invariant-loop-part
invariant-loop-part l = nodes_of l.kept.items ≡ kept_of (λ p. not (list_any (λ q. same_place q p) l.gone)) (nodes_of (take l.part-index l.parts))
