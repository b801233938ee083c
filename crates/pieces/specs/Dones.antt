-- What a piece that was worked hands in.
use Rattle.std.specs.Prelude.{◌≡◌, ℕ, Bool, List}
use Rattle.fpage.specs.declared.rights.Rights.{Rights}
use Rattle.std.specs.declared.vec.Vec.{Vec}
use Rattle.std.specs.declared.alloc.Global.{Global}
use Rattle.space.specs.declared.slice.Slice.{Slice}
use Rattle.pieces.specs.Values.{Value, value}
use Rattle.pieces.specs.declared.piece.Piece.{Piece}

-- the number of a piece, what it found out, and, for contracts alone, the piece and the words at opening
pub record DoneContent : Type 0 where
  pub number : ℕ
  pub found : Value
  pub of : Piece
  pub words : List ℕ

-- what was found out is the value of the piece and of the words at opening
abbrev pub IsDone : DoneContent → Type 0
IsDone d = d.found ≡ value d.words d.of

-- kept nodes, status and answers, as contracts see them
abbrev pub found_as : Slice → Rights → Vec Bool Global → Value
found_as kept status answers = record { kept = kept.nodes.items; status = status; answers = answers.items }
