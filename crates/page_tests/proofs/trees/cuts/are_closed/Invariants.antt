-- The nodes so far are left out with their origins.
use Rattle.std.proofs.Common.{◌≡◌, ℕ, ◌<◌, true, not, Some}
use Rattle.std.specs.List.{list_any}
use Rattle.space.specs.declared.place.Place.{Place}
use Rattle.space.specs.Place.{same_place}
use Rattle.maptree.specs.Origins.{origin_in, place_at}
use Rattle.page_tests.proofs.trees.cuts.are_closed.Given as goal

abbrev pub invariant-loop-i : goal.invariant-loop-i
invariant-loop-i l = (k : ℕ) → k < l.i → (d o : Place) → origin_in l.tree.links (place_at l.tree.links k d) ≡ Some o
    → not (list_any (λ q. same_place q (place_at l.tree.links k d)) l.gone) ≡ true → not (list_any (λ q. same_place q o) l.gone) ≡ true
