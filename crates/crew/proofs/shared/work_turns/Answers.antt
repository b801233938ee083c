use Rattle.std.proofs.Common.{ℕ, ◌≡◌, ◌<◌, ◌≤◌, ◌∙◌, length, arith, sym, subst}
use Rattle.std.proofs.lemmas.Result.{IfOk-weaker}
use Rattle.turns.specs.Closing.{numbers_of}
use Rattle.crew.proofs.Wholes.{dealt_all}
use Rattle.crew.proofs.shared.work_turns.Goals as goal

pub work_deques-requires-clause-some : goal.work_deques-requires-clause-some
work_deques-requires-clause-some g c =
    let n : ℕ = c.len.result in let m : ℕ = length c.args.turns.items in let many : n ≡ m = c.len.ensures ∙ c.args.turns.ok.0 in let has : 0 < m = c.requires.some in
    let some : 1 ≤ n = omega (arith, many, has) in
    λ _ _. subst (λ k. 1 ≤ k) (sym c.in_ok-deques.ensures.many) (c.workers_for-workers.ensures.some some)

pub returns-clause-sums : goal.returns-clause-sums
returns-clause-sums g c =
    let n : ℕ = c.len.result in let m : ℕ = length c.args.turns.items in let many : n ≡ m = c.len.ensures ∙ c.args.turns.ok.0 in let has : 0 < m = c.requires.some in
    let some : 1 ≤ n = omega (arith, many, has) in
    IfOk-weaker c.work_deques.result _ _ (λ ended sums h. sums h ∙ dealt_all h _ c.workers_for-workers.result (numbers_of c.args.turns.items) c.in_ok-deques.deques.items (c.workers_for-workers.ensures.some some) c.in_ok-deques.ensures) c.work_deques.ensures.sums
