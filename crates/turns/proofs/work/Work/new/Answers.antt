use Rattle.std.proofs.Common.{◌∙◌, ap, sym}
use Rattle.pieces.specs.declared.piece.Piece.TheVariants as piece
use Rattle.turns.proofs.work.Work.new.Goals as goal

pub returns-in-Strip : goal.returns-in-Strip
returns-in-Strip c = λ w. (c.in-Strip.is ∙ ap piece.Strip (sym c.new.ensures.of), c.new.ensures.work w)

pub returns-in_ok-touch-in-Touch : goal.returns-in_ok-touch-in-Touch
returns-in_ok-touch-in-Touch c = λ w. (c.in-Touch.is ∙ ap piece.Touch (sym c.in_ok-touch-in-Touch.ensures.of), c.in_ok-touch-in-Touch.ensures.work w)
