use Rattle.std.proofs.Common.{rules, ◌+◌, ◌++◌, ◌∷◌, [], length, ◌∙◌, ap, sym, subst, zero-add}
use Rattle.std.proofs.lemmas.Iterator.Adapters.{YieldsList-from_vec}
use Rattle.std.proofs.lemmas.Iterator.Consumers.{YieldsList-turn}
use Rattle.std.proofs.lemmas.List.{length-append}
use Rattle.crew.specs.Crews.{WorkerContent, OwnDequeContent, AreApart}
use Rattle.crew.proofs.Yields.{one_apart}
use Rattle.crew.proofs.settling.take_apart.Goals as goal

pub loop-worker-preserved : goal.loop-worker-preserved
loop-worker-preserved g c =
    let s = g.N.Which.shared in let crew = g.M.Crewed.crew in let yielded = c.loop-worker.yielded in let k = length yielded in let worker = c.in-Some.worker in let parts = c.into_parts-own.result in
    let road = YieldsList-from_vec c.args.workers.items (search rules) (search rules) in
    let turn = YieldsList-turn road yielded c.loop-worker.worker-iterator c.loop-worker.yielded_by c.next.result c.next.new.self worker c.in-Some.is c.next.ensures.steps in
    let number = ap (λ (o : OwnDequeContent). o.number) (c.into_parts-own.ensures.own ∙ ap (λ (l : WorkerContent). l.own) c.into_worker.ensures) ∙ ap (λ (l : WorkerContent). l.own.number) turn.1 ∙ c.requires.numbers k worker turn.0 ∙ zero-add k in
    let one = one_apart s crew k c.loop-worker.owns.items c.loop-worker.passes.items c.loop-worker.turns.items parts.0 parts.1.items parts.2.items c.loop-worker.invariant c.into_parts-own.ensures.worker number in
    subst (λ n. AreApart s crew n c.push.new.self.items c.append.new.self.items c.append-in-loop-worker.new.self.items) (sym (length-append yielded (worker ∷ [])))
    (subst (λ os. AreApart s crew (k + 1) os c.append.new.self.items c.append-in-loop-worker.new.self.items) (sym c.in_ok-push.ensures.items)
    (subst (λ cs. AreApart s crew (k + 1) (c.loop-worker.owns.items ++ parts.0 ∷ []) cs c.append-in-loop-worker.new.self.items) (sym c.in_ok-append.ensures.items)
    (subst (λ ts. AreApart s crew (k + 1) (c.loop-worker.owns.items ++ parts.0 ∷ []) (c.loop-worker.passes.items ++ parts.1.items) ts) (sym c.in_ok-append-2.ensures.items) one)))
