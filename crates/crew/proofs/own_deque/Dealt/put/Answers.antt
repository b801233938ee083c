use Rattle.std.proofs.Common.{◌≡◌, ◌∷◌, [], ◌++◌, ◌<◌, arith, ap, sym, subst}
use Rattle.crossbeam_deque.specs.Handles.{worker_view}
use Rattle.crossbeam_deque.specs.Tasks.{Pushes}
use Rattle.turns.specs.Closing.{numbers_of}
use Rattle.crew.specs.Hands.{all_parts, hand, Balanced}
use Rattle.crew.specs.declared.hand.Hand.{Hand}
use Rattle.crew.proofs.Balances.{puts}
use Rattle.crew.proofs.own_deque.Dealt.put.Goals as goal

pub push_as-requires-clause-pushes : goal.push_as-requires-clause-pushes
push_as-requires-clause-pushes g c =
    let s = g.N.Which.shared in let v = worker_view c.self.inside.deque in let x = c.args.turn in
    let parts : v.parts ≡ all_parts = ap (λ (u : Hand). u.parts) c.self.invariant.2 in
    let has : 0 < v.parts = omega arith in
    subst (λ p. Pushes (Balanced s) p v (x ∷ []) (λ w. w ≡ hand v.parts (v.put ++ numbers_of (x ∷ [])) v.taken)) (sym c.self.invariant.1) (puts s v x has c.requires)
