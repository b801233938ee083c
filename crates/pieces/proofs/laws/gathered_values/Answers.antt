-- The result of each number is the value of its piece.
use Rattle.pieces.proofs.Placed.{gathered}
use Rattle.pieces.proofs.laws.gathered_values.Goals as goal

pub returns : goal.returns
returns c = gathered
