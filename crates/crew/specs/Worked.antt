-- What comes of the work of a phase.
use Rattle.std.specs.Prelude.{◌≡◌, ℕ, List, length}
use Rattle.std.specs.List.{AllPass}
use Rattle.space.specs.Word.{is_pack}
use Rattle.pieces.specs.Applied.{worked}
use Rattle.pieces.specs.Dones.{DoneContent}
use Rattle.pieces.specs.Laws.{AreDone}
use Rattle.pieces.specs.declared.piece.Piece.{Piece}

-- the words with all steps of all pieces done, and the result of each piece
pub record IsWorked (w : List ℕ) (ps : List Piece) (after : List ℕ) (ds : List DoneContent) : Type 0 where
  pub words : after ≡ worked w ps
  -- there are as many words as before, and they stand for entries
  pub many : length after ≡ length w
  pub packs : AllPass is_pack after
  pub dones : AreDone w ps ds
