-- The turn is of this phase.
use Rattle.std.proofs.Common.{◌≡◌}
use Rattle.phase_tests.proofs.by_turns.ends_with_its_second_step.Given as goal

abbrev pub invariant-loop-wanted : goal.invariant-loop-wanted
invariant-loop-wanted g l = l.turn.shared ≡ l.phase
