use Rattle.std.proofs.Common.{rules, ◌≡◌, ℕ, ◌+◌, ◌++◌, ◌∷◌, [], List, map, refl, ◌∙◌, ap, sym, arith}
use Rattle.std.proofs.lemmas.Iterator.Adapters.{YieldsList-from_vec}
use Rattle.std.proofs.lemmas.Iterator.Consumers.{YieldsList-end}
use Rattle.turns.specs.Closing.{numbers_of}
use Rattle.crew.specs.Crews.{OwnDequeContent, dealt, dealt_to, summed, took}
use Rattle.crew.specs.Hands.{weigh}
use Rattle.crew.proofs.Yields.{summed_more, all_dealt}
use Rattle.crew.proofs.settling.settle_all.Goals as goal

pub loop-own-preserved : goal.loop-own-preserved
loop-own-preserved g c = (
  c.in_ok-settle_one.ensures.ended,
  λ h.
      let crew = g.M.Crewed.crew in let o = c.in-Some.own in let yielded = c.loop-own.yielded in let f : OwnDequeContent → ℕ = λ (x : OwnDequeContent). weigh h (dealt_to crew x.number) in
      let a : ℕ = weigh h (numbers_of c.settle_one.new.turns.items) in let b : ℕ = weigh h (numbers_of c.loop-own.turns.items) in let z : ℕ = weigh h (numbers_of c.args.turns.items) in
      let d : ℕ = weigh h o.hand.taken in let e : ℕ = weigh h (dealt_to crew o.number) in
      let step : a + d ≡ b + e = c.in_ok-settle_one.ensures.sums h in
      let p : ℕ = took h yielded in let q : ℕ = summed f yielded in let so_far : b + p ≡ z + q = c.loop-own.invariant.1 h in
      let r : ℕ = took h (yielded ++ o ∷ []) in let more : r ≡ p + d = summed_more (λ (x : OwnDequeContent). weigh h x.hand.taken) yielded o in
      let s : ℕ = summed f (yielded ++ o ∷ []) in let more' : s ≡ q + e = summed_more f yielded o in
      let goal : a + r ≡ z + s = omega arith in
      goal,
)

pub returns-clause-sums : goal.returns-clause-sums
returns-clause-sums g c =
    λ h.
    let crew = g.M.Crewed.crew in let yielded = c.loop-own.yielded in let f : OwnDequeContent → ℕ = λ (x : OwnDequeContent). weigh h (dealt_to crew x.number) in
    let road = YieldsList-from_vec c.args.owns.items (search rules) (search rules) in
    let end = YieldsList-end road yielded c.loop-own.own-iterator c.loop-own.yielded_by c.next.result c.next.new.self c.in-None.is c.next.ensures.steps in
    let a : ℕ = weigh h (numbers_of c.loop-own.turns.items) in let z : ℕ = weigh h (numbers_of c.args.turns.items) in
    let p : ℕ = took h yielded in let q : ℕ = summed f yielded in let so_far : a + p ≡ z + q = c.loop-own.invariant.1 h in
    let u : ℕ = took h c.args.owns.items in let w : ℕ = summed f c.args.owns.items in
    let same = sym (map_same yielded) ∙ end.0 in
    let pu : p ≡ u = ap (took h) same in let qw : q ≡ w = ap (summed f) same in
    let start : z ≡ u = c.requires.sums h in
    let x : ℕ = dealt h crew in let all : w ≡ x = all_dealt h c.args.owns.items crew c.requires.each c.requires.numbers in
    let goal : a ≡ x = omega arith in goal
  where
    map_same : (xs : List OwnDequeContent) → map (λ x. x) xs ≡ xs
    map_same [] = refl
    map_same (x ∷ xs) = ap (λ ys. x ∷ ys) (map_same xs)
