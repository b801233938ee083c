-- The nodes of the results that were taken, which stood behind those that are left, are in their places.
use Rattle.std.proofs.Common.{◌≡◌, ◌≤◌, length, map, take, drop}
use Rattle.space.specs.Slices.{nodes_of}
use Rattle.pieces.specs.Gathering.{all_found}
use Rattle.pieces.proofs.gathering.take_slices.Given as goal

abbrev pub invariant-loop-done : goal.invariant-loop-done
invariant-loop-done l =
    (nodes_of l.slices ≡ map (λ v. v.kept) (all_found (length l.initial.slices) (drop (length l.given.items) l.fn.given.items)))
    × (l.given.items ≡ take (length l.given.items) l.fn.given.items)
    × (length l.given.items ≤ length l.fn.given.items)

-- it gets shorter
abbrev pub decreases-loop-done : goal.decreases-loop-done
decreases-loop-done l = length l.given.items
