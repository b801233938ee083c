-- What a worker holds keeps its sums.
use Rattle.std.proofs.Common.{◌≡◌, ◌≢◌, ℕ, zero, suc, ◌+◌, ◌<◌, List, [], ◌∷◌, ◌++◌, length, map, set, get_or, refl, ap, ◌∙◌, sym, subst, arith, ⊎_elim}
use Rattle.std.specs.List.{All, range_with_len}
use Rattle.std.proofs.lemmas.List.{get_or-set_same, get_or-set_other, length-set}
use Rattle.std.proofs.lemmas.List.Elements.{All-push}
use Rattle.std.proofs.lemmas.Bool.{cases_eq}
use Rattle.turns.specs.Closing.{numbers_of}
use Rattle.turns.specs.Posts.{PostContent}
use Rattle.turns.specs.SharedWords.{SharedContent}
use Rattle.crew.specs.Crews.{OwnDequeContent, StealPassContent, DealtContent, IsEnded, IsWorker, new_passes, stolen, summed}
use Rattle.crew.specs.Hands.{all_parts, hand, weigh}
use Rattle.crew.specs.declared.hand.Hand.{Hand}
use Rattle.crew.proofs.Balances.{weigh_append, numbers_append}

-- ---- sums

-- one element changes
pub summed_set : {X : Type 0} → (f : X → ℕ) (xs : List X) (k : ℕ) (y d : X) → k < length xs → summed f (set xs k y) + f (get_or xs k d) ≡ summed f xs + f y
summed_set f [] k y d less = absurd (omega (arith, less))
summed_set f (x ∷ xs) zero y d less = let a : ℕ = f y in let b : ℕ = summed f xs in let c : ℕ = f x in let goal : (a + b) + c ≡ (c + b) + a = omega arith in goal
summed_set f (x ∷ xs) (suc k) y d less =
    let a : ℕ = f x in let b : ℕ = summed f (set xs k y) in let c : ℕ = f (get_or xs k d) in let e : ℕ = summed f xs in let g : ℕ = f y in
    let m : b + c ≡ e + g = summed_set f xs k y d (omega (arith, less)) in let goal : (a + b) + c ≡ (a + e) + g = omega arith in goal

pub summed_append : {X : Type 0} → (f : X → ℕ) (xs ys : List X) → summed f (xs ++ ys) ≡ summed f xs + summed f ys
summed_append f [] ys = let b : ℕ = summed f ys in let goal : b ≡ 0 + b = omega arith in goal
summed_append f (x ∷ xs) ys =
    let a : ℕ = f x in let b : ℕ = summed f (xs ++ ys) in let c : ℕ = summed f xs in let d : ℕ = summed f ys in let m : b ≡ c + d = summed_append f xs ys in let goal : a + b ≡ (a + c) + d = omega arith in goal

-- ---- one turn more

pub one_more : (h : ℕ → ℕ) (ts : List PostContent) (t : PostContent) → weigh h (numbers_of (ts ++ t ∷ [])) ≡ weigh h (numbers_of ts) + h t.number
one_more h ts t =
    let a : ℕ = weigh h (numbers_of (ts ++ t ∷ [])) in let b : ℕ = weigh h (numbers_of ts) in let m : ℕ = h t.number in
    let e : a ≡ b + (m + 0) = ap (weigh h) (numbers_append ts (t ∷ [])) ∙ weigh_append h (numbers_of ts) (t.number ∷ []) in let goal : a ≡ b + m = omega arith in goal

pub weigh_more : (h : ℕ → ℕ) (ns : List ℕ) (n : ℕ) → weigh h (ns ++ n ∷ []) ≡ weigh h ns + h n
weigh_more h ns n = let a : ℕ = weigh h (ns ++ n ∷ []) in let b : ℕ = weigh h ns in let m : ℕ = h n in let e : a ≡ b + (m + 0) = weigh_append h ns (n ∷ []) in let goal : a ≡ b + m = omega arith in goal

-- ---- passes

-- nothing was stolen by new passes
none_stolen : (h : ℕ → ℕ) (a n : ℕ) → stolen h (map (λ k. record { number = k; taken = [] }) (range_with_len a n)) ≡ 0
none_stolen h a zero = refl
none_stolen h a (suc n) = let x : ℕ = stolen h (map (λ k. record { number = k; taken = [] }) (range_with_len (a + 1) n)) in let e : x ≡ 0 = none_stolen h (a + 1) n in let goal : 0 + x ≡ 0 = omega arith in goal

-- and they stand at the numbers of the workers
new_numbers : (a n k : ℕ) (d : StealPassContent) → k < n → (get_or (map (λ j. let c : StealPassContent = record { number = j; taken = [] } in c) (range_with_len a n)) k d).number ≡ a + k
new_numbers a zero k d less = absurd (omega (arith, less))
new_numbers a (suc n) zero d less = let goal : a ≡ a + 0 = omega arith in goal
new_numbers a (suc n) (suc k) d less = let e = new_numbers (a + 1) n k d (omega (arith, less)) in let f : (a + 1) + k ≡ a + suc k = omega arith in e ∙ f

passes_length : (a n : ℕ) → length (map (λ j. let c : StealPassContent = record { number = j; taken = [] } in c) (range_with_len a n)) ≡ n
passes_length a zero = refl
passes_length a (suc n) = ap suc (passes_length (a + 1) n)

-- a worker that has not begun
pub new_worker : (s : SharedContent) (crew : List DealtContent) (own : OwnDequeContent) (passes : List StealPassContent) (turns : List PostContent) → own.hand.taken ≡ [] → own.hand.parts + length crew ≡ all_parts → passes ≡ new_passes (length crew)
    → turns ≡ [] → IsWorker s crew own passes turns
new_worker s crew own passes turns none parts are nothing = record {
  ended = subst (All (IsEnded s)) (sym nothing) (λ k d less. absurd (omega (arith, less)));
  sums =
      λ h.
      let a : ℕ = weigh h (numbers_of turns) in let a0 : a ≡ 0 = ap (λ ts. weigh h (numbers_of ts)) nothing in
      let b : ℕ = weigh h own.hand.taken in let b0 : b ≡ 0 = ap (weigh h) none in
      let c : ℕ = stolen h passes in let c0 : c ≡ 0 = ap (stolen h) are ∙ none_stolen h 0 (length crew) in
      let goal : a ≡ b + c = omega arith in
      goal;
  parts = parts;
  many = ap length are ∙ passes_length 0 (length crew);
  numbers =
      λ k d less.
      let below : k < length crew = subst (λ n. k < n) (ap length are ∙ passes_length 0 (length crew)) less in
      let zero_k : 0 + k ≡ k = omega arith in
      ap (λ cs. (get_or cs k d).number) are ∙ new_numbers 0 (length crew) k d below ∙ zero_k;
}

-- a turn of its own deque was taken, and has ended
pub took_one : (s : SharedContent) (crew : List DealtContent) (own after : OwnDequeContent) (passes : List StealPassContent) (turns : List PostContent) (t : PostContent) → IsWorker s crew own passes turns
    → after.hand ≡ hand own.hand.parts own.hand.put (own.hand.taken ++ t.number ∷ []) → IsEnded s t → IsWorker s crew after passes (turns ++ t ∷ [])
took_one s crew own after passes turns t worker is ended = record {
  ended = All-push (IsEnded s) turns t worker.ended ended;
  sums =
      λ h.
      let a : ℕ = weigh h (numbers_of (turns ++ t ∷ [])) in let b : ℕ = weigh h (numbers_of turns) in let m : ℕ = h t.number in let e : a ≡ b + m = one_more h turns t in
      let c : ℕ = weigh h after.hand.taken in let d : ℕ = weigh h own.hand.taken in let f : c ≡ d + m = ap (λ (v : Hand). weigh h v.taken) is ∙ weigh_more h own.hand.taken t.number in
      let g : ℕ = stolen h passes in let i : b ≡ d + g = worker.sums h in let goal : a ≡ c + g = omega arith in
      goal;
  parts = ap (λ (v : Hand). v.parts + length crew) is ∙ worker.parts;
  many = worker.many;
  numbers = worker.numbers;
}

-- a turn was stolen, and has ended
pub stole_one : (s : SharedContent) (crew : List DealtContent) (own : OwnDequeContent) (passes : List StealPassContent) (turns : List PostContent) (k : ℕ) (c after : StealPassContent) (t : PostContent) → IsWorker s crew own passes turns
    → k < length passes → c ≡ get_or passes k c → after.number ≡ c.number → after.taken ≡ c.taken ++ t.number ∷ [] → IsEnded s t → IsWorker s crew own (set passes k after) (turns ++ t ∷ [])
stole_one s crew own passes turns k c after t worker less here number taken ended = record {
  ended = All-push (IsEnded s) turns t worker.ended ended;
  sums =
      λ h.
      let a : ℕ = weigh h (numbers_of (turns ++ t ∷ [])) in let b : ℕ = weigh h (numbers_of turns) in let m : ℕ = h t.number in let e : a ≡ b + m = one_more h turns t in
      let x : ℕ = weigh h after.taken in let y : ℕ = weigh h c.taken in let f : x ≡ y + m = ap (weigh h) taken ∙ weigh_more h c.taken t.number in
      let z : ℕ = weigh h (get_or passes k c).taken in let same : y ≡ z = ap (λ (u : StealPassContent). weigh h u.taken) here in
      let p : ℕ = stolen h (set passes k after) in let q : ℕ = stolen h passes in
      let j : p + z ≡ q + x = summed_set (λ (u : StealPassContent). weigh h u.taken) passes k after c less in
      let d : ℕ = weigh h own.hand.taken in let i : b ≡ d + q = worker.sums h in let goal : a ≡ d + p = omega arith in
      goal;
  parts = worker.parts;
  many = length-set passes k after ∙ worker.many;
  numbers = numbers;
}
  where
    numbers : (j : ℕ) (d : StealPassContent) → j < length (set passes k after) → (get_or (set passes k after) j d).number ≡ j
    numbers j d low =
        ⊎_elim (λ (e : j ≡ k). subst (λ i. (get_or (set passes k after) i d).number ≡ i) (sym e) (ap (λ (u : StealPassContent). u.number) (get_or-set_same passes k after d less) ∙ number ∙ ap (λ (u : StealPassContent). u.number) here ∙ worker.numbers k c less))
        (λ (n : j ≢ k). ap (λ (u : StealPassContent). u.number) (get_or-set_other passes k j after d n) ∙ worker.numbers j d (subst (λ i. j < i) (length-set passes k after) low)) (cases_eq j k)
