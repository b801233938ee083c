-- Its own deque is as it was.
use Rattle.std.proofs.Common.{◌≡◌}
use Rattle.crew.proofs.worker.Worker.steal_round.Given as goal

abbrev pub invariant-loop-ahead : goal.invariant-loop-ahead
invariant-loop-ahead g l = l.self.own ≡ l.initial.self.own
