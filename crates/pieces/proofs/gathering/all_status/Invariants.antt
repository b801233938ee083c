-- The status of the pieces so far.
use Rattle.std.proofs.Common.{◌≡◌, map}
use Rattle.pieces.specs.Gathering.{all_found, union_of}
use Rattle.pieces.proofs.gathering.all_status.Given as goal

abbrev pub invariant-loop-place : goal.invariant-loop-place
invariant-loop-place l = l.status ≡ union_of (map (λ v. v.status) (all_found l.place-index l.given))
