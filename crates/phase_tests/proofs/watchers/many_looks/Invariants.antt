-- The watcher is of this phase.
use Rattle.std.proofs.Common.{◌≡◌}
use Rattle.phase_tests.proofs.watchers.many_looks.Given as goal

abbrev pub invariant-loop : goal.invariant-loop
invariant-loop l = l.watcher.shared ≡ l.phase
