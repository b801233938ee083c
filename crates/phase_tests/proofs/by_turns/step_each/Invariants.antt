-- The turns so far are of this phase.
use Rattle.std.proofs.Common.{◌≡◌}
use Rattle.std.specs.List.{All}
use Rattle.turns.specs.Posts.{PostContent}
use Rattle.phase_tests.proofs.by_turns.step_each.Given as goal

abbrev pub invariant-loop-turn : goal.invariant-loop-turn
invariant-loop-turn l = All (λ (t : PostContent). t.shared ≡ l.phase) l.after.items
