-- The turns so far are taken back.
use Rattle.turns.proofs.Ending.{AreTaken}
use Rattle.turns.proofs.open.Open.close.Given as goal

abbrev pub invariant-loop-turn : goal.invariant-loop-turn
invariant-loop-turn l = AreTaken l.shared l.yielded l.seat.table_id l.seat.me l.dones l.unended
