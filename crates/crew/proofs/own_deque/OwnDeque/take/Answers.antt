use Rattle.std.proofs.Common.{sym, subst}
use Rattle.crossbeam_deque.specs.Handles.{worker_view}
use Rattle.crossbeam_deque.specs.Tasks.{Takes}
use Rattle.crew.specs.Hands.{Balanced, IsTaken, IsWithin}
use Rattle.crew.proofs.Balances.{takes}
use Rattle.crew.proofs.own_deque.OwnDeque.take.Goals as goal

pub pop_as-requires-clause-fifo : goal.pop_as-requires-clause-fifo
pop_as-requires-clause-fifo g c =
    λ fifo.
    let s = g.N.Which.shared in let v = worker_view c.self.inside.deque in
    subst (λ p. Takes (Balanced s) p v 1 (λ xs w. IsTaken s v xs w × IsWithin w)) (sym c.self.invariant.first) (takes s v c.self.invariant.has)
