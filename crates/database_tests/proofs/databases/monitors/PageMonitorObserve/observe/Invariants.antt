-- The watcher is the one that was lent.
use Rattle.std.proofs.Common.{◌≡◌}
use Rattle.database_tests.proofs.databases.monitors.PageMonitorObserve.observe.Given as goal

abbrev pub invariant-loop : goal.invariant-loop
invariant-loop l = (l.watcher.shared ≡ l.fn.watcher.shared) × (l.watcher.number ≡ l.fn.watcher.number)
