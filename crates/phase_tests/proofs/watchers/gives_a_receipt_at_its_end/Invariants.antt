-- Turn and watcher are of this phase.
use Rattle.std.proofs.Common.{◌≡◌}
use Rattle.phase_tests.proofs.watchers.gives_a_receipt_at_its_end.Given as goal

abbrev pub invariant-loop-steps : goal.invariant-loop-steps
invariant-loop-steps g l = (l.first.shared ≡ l.phase) × (l.watcher.shared ≡ l.phase)
