use Rattle.std.proofs.Common.{rules, ◌≡◌, ℕ, ◌+◌, ◌∷◌, [], length, ◌∙◌, ap, sym, subst, arith}
use Rattle.std.proofs.lemmas.Iterator.Adapters.{YieldsList-from_vec}
use Rattle.std.proofs.lemmas.Iterator.Consumers.{YieldsList-turn}
use Rattle.std.proofs.lemmas.List.{length-append}
use Rattle.crew.specs.Crews.{AreNumberedFrom}
use Rattle.crew.proofs.Dealings.{numbered_on}
use Rattle.crew.proofs.team.join_all.Goals as goal

pub loop-handle-preserved : goal.loop-handle-preserved
loop-handle-preserved g c =
    let yielded = c.loop-handle.yielded in let k = length yielded in let handle = c.in-Some.handle in let workers = c.loop-handle.workers.items in let e = c.in_ok-join.field-0 in
    let road = YieldsList-from_vec c.args.handles.items (search rules) (search rules) in
    let turn = YieldsList-turn road yielded c.loop-handle.handle-iterator c.loop-handle.yielded_by c.next.result c.next.new.self handle c.in-Some.is c.next.ensures.steps in
    let promise = ap (λ x. x.promise.0) turn.1 ∙ c.requires.handles k handle turn.0 in
    let n : ℕ = length workers in let many : n ≡ k + 1 = c.loop-handle.invariant.1 in let next : 1 + k ≡ 0 + n = omega arith in (
      subst (AreNumberedFrom 0) (sym c.in_ok-add.ensures) (numbered_on 0 workers e c.loop-handle.invariant.0 (c.in_ok-join.ensures ∙ promise ∙ next)),
      ap length c.in_ok-add.ensures ∙ length-append workers (e ∷ []) ∙ ap (λ m. m + 1) (many ∙ sym (length-append yielded (handle ∷ []))),
    )
