use Rattle.std.proofs.Common.{rules, ◌+◌, ◌<◌, ◌∷◌, [], length, get_or, ◌∙◌, ap, sym, subst}
use Rattle.std.proofs.lemmas.Iterator.Adapters.{YieldsList-from_vec}
use Rattle.std.proofs.lemmas.Iterator.Consumers.{YieldsList-turn}
use Rattle.std.proofs.lemmas.List.{length-append}
use Rattle.crew.specs.Crews.{WorkerContent}
use Rattle.crew.proofs.Numbered.{numbered_more}
use Rattle.crew.proofs.team.start_all.Goals as goal

pub loop-worker-preserved : goal.loop-worker-preserved
loop-worker-preserved g c =
    let handles = c.loop-worker.handles.items in let yielded = c.loop-worker.yielded in let k = length yielded in let worker = c.in-Some.worker in let h = c.in_ok-start.field-0 in
    let road = YieldsList-from_vec c.args.workers.items (search rules) (search rules) in
    let turn = YieldsList-turn road yielded c.loop-worker.worker-iterator c.loop-worker.yielded_by c.next.result c.next.new.self worker c.in-Some.is c.next.ensures.steps in
    let number = ap (λ (l : WorkerContent). l.own.number) turn.1 ∙ c.requires k worker turn.0 in
    let promise = c.in_ok-start.ensures.number ∙ number ∙ ap (λ n. 1 + n) (sym c.loop-worker.invariant.0) in (
      ap length c.in_ok-add.ensures ∙ length-append handles (h ∷ []) ∙ ap (λ n. n + 1) c.loop-worker.invariant.0 ∙ sym (length-append yielded (worker ∷ [])),
      (λ j d less. ap (λ hs. (get_or hs j d).promise.0) c.in_ok-add.ensures ∙ numbered_more (λ x. x.promise.0) 1 handles h c.loop-worker.invariant.1 promise j d (subst (λ hs. j < length hs) c.in_ok-add.ensures less)),
    )
