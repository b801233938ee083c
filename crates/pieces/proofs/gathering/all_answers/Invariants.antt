-- The answers of the pieces so far.
use Rattle.std.proofs.Common.{◌≡◌}
use Rattle.std.specs.List.{flat_map}
use Rattle.pieces.specs.Gathering.{all_found}
use Rattle.pieces.proofs.gathering.all_answers.Given as goal

abbrev pub invariant-loop-place : goal.invariant-loop-place
invariant-loop-place l = l.answers.items ≡ flat_map (λ v. v.answers) (all_found l.place-index l.given)
