-- The pieces so far are pieces.
use Rattle.std.proofs.Common.{ℕ, ◌<◌, get_or}
use Rattle.pieces.specs.Phases.{IsPiece}
use Rattle.pieces.specs.declared.piece.Piece.{Piece}
use Rattle.pieces.proofs.piece.learn_are_pieces.Given as goal

abbrev pub invariant-loop-piece : goal.invariant-loop-piece
invariant-loop-piece l = (k : ℕ) (d : Piece) → k < l.piece-index → IsPiece (get_or l.pieces k d)
