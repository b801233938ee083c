-- None of the places so far is in the tree.
use Rattle.std.proofs.Common.{◌≡◌, true, not, take}
use Rattle.std.specs.List.{list_all, list_any}
use Rattle.space.specs.Place.{same_place}
use Rattle.page_tests.proofs.trees.cuts.are_absent.Given as goal

abbrev pub invariant-loop-place : goal.invariant-loop-place
invariant-loop-place l = list_all (λ o. not (list_any (λ q. same_place q o.0) (take l.place-index l.gone))) l.tree.links ≡ true
