-- The watcher is of this phase.
use Rattle.std.proofs.Common.{◌≡◌}
use Rattle.phase_tests.proofs.times.Looks.look.Given as goal

abbrev pub invariant-loop : goal.invariant-loop
invariant-loop l = (l.watcher.shared ≡ l.shared) × (l.watcher.number ≡ l.fn.watcher.number)
