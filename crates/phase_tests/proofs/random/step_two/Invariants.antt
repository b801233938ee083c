-- Both turns are of this phase.
use Rattle.std.proofs.Common.{◌≡◌}
use Rattle.phase_tests.proofs.random.step_two.Given as goal

abbrev pub invariant-loop-k : goal.invariant-loop-k
invariant-loop-k l = (l.first.shared ≡ l.phase) × (l.second.shared ≡ l.phase)
