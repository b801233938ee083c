use Rattle.std.proofs.Common.{◌<◌, ◌++◌, ◌∷◌, [], length, set, ap, ◌∙◌, sym, subst}
use Rattle.crew.specs.Crews.{IsWorker}
use Rattle.crew.proofs.WorkerSums.{stole_one}
use Rattle.crew.proofs.worker.Worker.steal_from.Goals as goal

pub invariant_of-self-in-Success : goal.invariant_of-self-in-Success
invariant_of-self-in-Success g c =
    let s = g.N.Which.shared in let crew = g.M.Crewed.crew in let own = c.self.inside.own in let passes = c.self.inside.passes.items in let turns = c.self.inside.turns.items in let t = c.work-turn.result in
    let old = c.index_mut.result.now in let after = c.steal.new.pass in let k = c.args.number in
    let less : k < length passes = subst (λ n. k < n) (sym c.self.invariant.many) c.requires in
    let taken = c.in-Success.ensures.taken.1 ∙ ap (λ n. old.taken ++ n ∷ []) (sym c.work-turn.ensures.number) in
    subst (IsWorker s crew own (set passes k after)) (sym (c.push_reserved.ensures.items ∙ ap (λ ts. ts ++ t ∷ []) c.in_ok-reserve.ensures.items))
    (stole_one s crew own passes turns k old after t c.self.invariant less c.index_mut.ensures.value c.in-Success.ensures.number taken c.work-turn.ensures.ended)
