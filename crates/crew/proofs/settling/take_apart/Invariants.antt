-- The workers so far are taken apart.
use Rattle.std.proofs.Common.{length}
use Rattle.crew.specs.Crews.{AreApart}
use Rattle.crew.proofs.settling.take_apart.Given as goal

abbrev pub invariant-loop-worker : goal.invariant-loop-worker
invariant-loop-worker g l = AreApart g.N.Which.shared g.M.Crewed.crew (length l.yielded) l.owns.items l.passes.items l.turns.items
