-- The database is not halted, and has each page.
use Rattle.l4trace_moments.specs.History.{IsRunning}
use Rattle.l4trace_moments.proofs.history.changes.Given as goal

abbrev pub invariant-loop-i : goal.invariant-loop-i
invariant-loop-i g l = IsRunning l.watched.database l.watched.places.items
