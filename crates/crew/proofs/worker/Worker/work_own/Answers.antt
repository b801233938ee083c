use Rattle.std.proofs.Common.{◌++◌, ◌∷◌, [], ap, ◌∙◌, sym, subst}
use Rattle.crew.specs.Crews.{IsWorker}
use Rattle.crew.specs.Hands.{hand}
use Rattle.crew.proofs.WorkerSums.{took_one}
use Rattle.crew.proofs.worker.Worker.work_own.Goals as goal

pub invariant_of-self-2 : goal.invariant_of-self-2
invariant_of-self-2 g c =
    let s = g.N.Which.shared in let crew = g.M.Crewed.crew in let own = c.self.inside.own in let passes = c.self.inside.passes.items in let turns = c.self.inside.turns.items in let t = c.work-turn.result in
    let taken = c.in-Some.ensures.taken.1 ∙ ap (λ n. hand own.hand.parts own.hand.put (own.hand.taken ++ n ∷ [])) (sym c.work-turn.ensures.number) in
    subst (IsWorker s crew c.take.new.self passes) (sym (c.push_reserved.ensures.items ∙ ap (λ ts. ts ++ t ∷ []) c.in_ok-reserve.ensures.items)) (took_one s crew own c.take.new.self passes turns t c.self.invariant taken c.work-turn.ensures.ended)
