use Rattle.std.proofs.Common.{◌+◌, ◌++◌, [], sym, subst}
use Rattle.crossbeam_deque.specs.Handles.{worker_view, view}
use Rattle.crossbeam_deque.specs.Tasks.{Merges}
use Rattle.crew.specs.Hands.{hand, Balanced}
use Rattle.crew.proofs.Balances.{takes_back}
use Rattle.crew.proofs.own_deque.OwnDeque.take_back.Goals as goal

pub absorb-requires-clause-rule : goal.absorb-requires-clause-rule
absorb-requires-clause-rule g c =
    let s = g.N.Which.shared in let v = worker_view c.self.inside.deque in let right = c.pass.inside.right in let w = view right in
    subst (λ p. Merges (Balanced s) p v right.id w (hand (v.parts + w.parts) v.put (v.taken ++ w.taken)) (hand 0 [] [])) (sym c.self.invariant.first) (takes_back s v right.id w c.self.invariant.has)
