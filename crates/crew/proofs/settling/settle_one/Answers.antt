use Rattle.std.proofs.Common.{◌≡◌, ℕ, ◌+◌, length, MatchBool, ap, ◌∙◌, subst, arith}
use Rattle.turns.specs.Closing.{numbers_of}
use Rattle.crew.specs.Crews.{dealt_to}
use Rattle.crew.specs.Hands.{weigh, IsWithin, WasEmpty}
use Rattle.crew.proofs.Balances.{all_taken}
use Rattle.crew.proofs.settling.settle_one.Goals as goal

pub returns-clause-sums : goal.returns-clause-sums
returns-clause-sums g c =
    λ h.
    let s = g.N.Which.shared in let old = c.loop-own.own.hand in let new = c.work_next.new.own.hand in let first = c.args.own.hand in
    let seen : WasEmpty s new = subst (λ b. MatchBool b ((length new.taken ≡ length old.taken + 1) × IsWithin new) (WasEmpty s new)) c.if-branch.false c.in_ok-work_next.ensures.worked in
    let same = all_taken s new seen (c.in_ok-work_next.ensures.parts ∙ c.loop-own.invariant.1) h in
    let a : ℕ = weigh h (numbers_of c.work_next.new.turns.items) in let b : ℕ = weigh h (numbers_of c.loop-own.turns.items) in let z : ℕ = weigh h (numbers_of c.args.turns.now.items) in
    let d : ℕ = weigh h old.taken in let e : ℕ = weigh h new.taken in let f : ℕ = weigh h first.taken in let p : ℕ = weigh h (dealt_to g.M.Crewed.crew c.args.own.number) in let q : ℕ = weigh h new.put in
    let put : q ≡ p = ap (weigh h) (c.in_ok-work_next.ensures.put.0 ∙ c.in_ok-work_next.ensures.put.1 ∙ ap (dealt_to g.M.Crewed.crew) c.loop-own.invariant.2) in
    let whole : q ≡ e = same in
    let step : a + d ≡ b + e = c.in_ok-work_next.ensures.sums h in
    let so_far : b + f ≡ z + d = c.loop-own.invariant.3 h in
    let goal : a + f ≡ z + p = omega arith in goal
