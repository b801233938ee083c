-- The deques so far.
use Rattle.std.proofs.Common.{[]}
use Rattle.crew.specs.Crews.{AreDealt}
use Rattle.crew.proofs.dealing.empty_deques.Given as goal

abbrev pub invariant-loop-worker : goal.invariant-loop-worker
invariant-loop-worker g l = AreDealt l.room l.worker [] l.deques.items
