use Rattle.std.proofs.Common.{◌≡◌, ◌-◌, ◌<◌, [], Some, ap, ◌∙◌, sym, subst}
use Rattle.std.specs.Prelude.{slice_get}
use Rattle.std.proofs.lemmas.Option.{slice_get-map}
use Rattle.std.specs.Option.{option_map}
use Rattle.crossbeam_deque.specs.Handles.{worker_view, worker_deque}
use Rattle.crossbeam_deque.specs.Tasks.{Forks}
use Rattle.crew.specs.Crews.{DealtContent, deques_of}
use Rattle.crew.specs.Hands.{hand, Balanced}
use Rattle.crew.specs.declared.hand.Hand.{Hand}
use Rattle.crew.proofs.Balances.{hands_out}
use Rattle.crew.proofs.own_deque.OwnDeque.hand_out.Goals as goal

pub another-requires : goal.another-requires
another-requires g c =
    let s = g.N.Which.shared in let v = worker_view c.self.inside.deque in
    let more : 1 < v.parts = subst (λ o. 1 < o.hand.parts) (sym c.self.view_is) c.requires in
    subst (λ p. Forks (Balanced s) p v (hand (v.parts - 1) v.put v.taken) (hand 1 [] [])) (sym c.self.invariant.first) (hands_out s v more)

pub invariant_of-result : goal.invariant_of-result
invariant_of-result g c =
    let right = c.another.result in
    let is = c.another.ensures.same.2 in
    let deque = worker_deque c.self.inside.deque in
    let here : slice_get (deques_of g.M.Crewed.crew) c.self.inside.number ≡ Some deque =
    slice_get-map (λ (d : DealtContent). d.deque) g.M.Crewed.crew c.self.inside.number ∙ ap (option_map (λ (d : DealtContent). d.deque)) c.self.invariant.dealt in
    (here ∙ (λ i. Some (sym is.0 i, sym is.1 i)), is.2, is.3, ap (λ (v : Hand). v.parts) c.another.ensures.rule.1)
