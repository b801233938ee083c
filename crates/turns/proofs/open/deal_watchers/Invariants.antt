-- The watchers so far.
use Rattle.std.proofs.Common.{◌≡◌}
use Rattle.turns.specs.Watching.{new_watchers}
use Rattle.turns.proofs.open.deal_watchers.Given as goal

abbrev pub invariant-loop-number : goal.invariant-loop-number
invariant-loop-number l = l.watchers.items ≡ new_watchers l.shared l.number
