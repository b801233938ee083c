-- Its own deque is as it was.
use Rattle.std.proofs.Common.{◌≡◌}
use Rattle.crew.proofs.worker.Worker.steal_some.Given as goal

abbrev pub invariant-loop : goal.invariant-loop
invariant-loop g l = l.self.own ≡ l.initial.self.own
