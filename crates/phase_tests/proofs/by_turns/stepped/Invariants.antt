-- The turn is of this phase.
use Rattle.std.proofs.Common.{◌≡◌}
use Rattle.phase_tests.proofs.by_turns.stepped.Given as goal

abbrev pub invariant-loop : goal.invariant-loop
invariant-loop l = l.turn.shared ≡ l.phase
