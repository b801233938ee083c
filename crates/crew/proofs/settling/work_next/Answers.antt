use Rattle.std.proofs.Common.{◌≡◌, ℕ, ◌+◌, ◌++◌, ◌∷◌, [], ap, ◌∙◌, sym, subst, arith}
use Rattle.std.specs.List.{All}
use Rattle.std.proofs.lemmas.List.Elements.{All-push}
use Rattle.turns.specs.Closing.{numbers_of}
use Rattle.crew.specs.Crews.{IsEnded}
use Rattle.crew.specs.Hands.{weigh}
use Rattle.crew.specs.declared.hand.Hand.{Hand}
use Rattle.crew.proofs.WorkerSums.{one_more, weigh_more}
use Rattle.crew.proofs.settling.work_next.Goals as goal

pub returns-clause-ended : goal.returns-clause-ended
returns-clause-ended g c =
    let s = g.N.Which.shared in let turns = c.args.turns.now.items in let t = c.work-turn.result in
    subst (All (IsEnded s)) (sym (c.push_reserved.ensures.items ∙ ap (λ ts. ts ++ t ∷ []) c.in_ok-reserve.ensures.items)) (All-push (IsEnded s) turns t c.requires c.work-turn.ensures.ended)

pub returns-clause-sums : goal.returns-clause-sums
returns-clause-sums g c =
    λ h.
    let turns = c.args.turns.now.items in let t = c.work-turn.result in let own = c.args.own.now in
    let a : ℕ = weigh h (numbers_of c.push_reserved.new.self.items) in let b : ℕ = weigh h (numbers_of turns) in let m : ℕ = h t.number in
    let e : a ≡ b + m = ap (λ ts. weigh h (numbers_of ts)) (c.push_reserved.ensures.items ∙ ap (λ ts. ts ++ t ∷ []) c.in_ok-reserve.ensures.items) ∙ one_more h turns t in
    let x : ℕ = weigh h c.take.new.self.hand.taken in let y : ℕ = weigh h own.hand.taken in
    let f : x ≡ y + m = ap (λ (v : Hand). weigh h v.taken) c.in-Some.ensures.taken.1 ∙ ap (λ n. weigh h (own.hand.taken ++ n ∷ [])) (sym c.work-turn.ensures.number) ∙ weigh_more h own.hand.taken t.number in
    let goal : a + y ≡ b + x = omega arith in goal
