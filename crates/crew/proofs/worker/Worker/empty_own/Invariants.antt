-- Each round takes a turn of those that were put.
use Rattle.std.proofs.Common.{◌≡◌, ◌-◌, length}
use Rattle.crew.proofs.worker.Worker.empty_own.Given as goal

abbrev pub invariant-loop : goal.invariant-loop
invariant-loop g l = l.self.own.number ≡ l.initial.self.own.number

abbrev pub decreases-loop : goal.decreases-loop
decreases-loop g l = length l.self.own.hand.put - length l.self.own.hand.taken
