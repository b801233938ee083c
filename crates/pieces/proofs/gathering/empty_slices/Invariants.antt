-- So many places are there.
use Rattle.std.proofs.Common.{◌≡◌, [], map}
use Rattle.space.specs.Slices.{nodes_of}
use Rattle.pieces.specs.Gathering.{all_found}
use Rattle.pieces.proofs.gathering.empty_slices.Given as goal

abbrev pub invariant-loop-piece : goal.invariant-loop-piece
invariant-loop-piece l = nodes_of l.slices.items ≡ map (λ v. v.kept) (all_found l.piece [])
