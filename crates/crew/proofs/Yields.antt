-- What workers held is put together, and every sum stays.
use Rattle.std.proofs.Common.{◌≡◌, ◌≢◌, ℕ, zero, suc, ◌+◌, ◌<◌, ◌≤◌, ◌==◌, List, [], ◌∷◌, ◌++◌, length, set, get_or, refl, ap, ◌∙◌, sym, subst, arith, zero-add, ⊎_elim, if◌then◌else◌}
use Rattle.std.proofs.lemmas.List.{get_or-set_same, get_or-set_other, length-set, length-append}
use Rattle.std.proofs.lemmas.List.Elements.{All-push, All-append}
use Rattle.std.proofs.lemmas.Option.{slice_get-get_or}
use Rattle.std.proofs.lemmas.Bool.{cases_eq, eq-eqb, ne_eqb}
use Rattle.turns.specs.Closing.{numbers_of}
use Rattle.turns.specs.Posts.{PostContent}
use Rattle.turns.specs.SharedWords.{SharedContent}
use Rattle.crew.specs.Crews.{OwnDequeContent, StealPassContent, DealtContent, AreNumbered, AreApart, AreTakenBack, IsEnded, IsWorker, stolen, took, dealt, dealt_to, passes_on, summed}
use Rattle.crew.specs.Hands.{all_parts, hand, weigh}
use Rattle.crew.proofs.Balances.{weigh_append, numbers_append}
use Rattle.crew.proofs.WorkerSums.{summed_set, summed_append}
use Rattle.crew.proofs.Numbered.{numbered_more}

-- ---- sums

-- one element more
pub summed_more : {X : Type 0} → (f : X → ℕ) (xs : List X) (x : X) → summed f (xs ++ x ∷ []) ≡ summed f xs + f x
summed_more f xs x =
    let a : ℕ = summed f (xs ++ x ∷ []) in let b : ℕ = summed f xs in let c : ℕ = f x in let e : a ≡ b + (c + 0) = summed_append f xs (x ∷ []) in let goal : a ≡ b + c = omega arith in goal

-- what all turns of two lists weigh
turns_append : (h : ℕ → ℕ) (ts us : List PostContent) → weigh h (numbers_of (ts ++ us)) ≡ weigh h (numbers_of ts) + weigh h (numbers_of us)
turns_append h ts us = ap (weigh h) (numbers_append ts us) ∙ weigh_append h (numbers_of ts) (numbers_of us)

-- ---- passes by the workers whose deques they are on

-- 1 where a pass is on the deque of a worker
abbrev is_on : ℕ → StealPassContent → ℕ
is_on k c = if c.number == k then 1 else 0

-- of passes on the deques of the workers from one on, none is on one before
none_on : (k a : ℕ) (cs : List StealPassContent) → ((j : ℕ) (d : StealPassContent) → j < length cs → (get_or cs j d).number ≡ a + j) → k < a → passes_on k cs ≡ 0
none_on k a [] numbers less = refl
none_on k a (c ∷ cs) numbers less =
    let here : c.number ≡ a + 0 = numbers 0 c (omega arith) in
    let rest = none_on k (a + 1) cs (λ j d low. let shift : a + suc j ≡ (a + 1) + j = omega arith in numbers (suc j) d (omega (arith, low)) ∙ shift) (omega (arith, less)) in
    rw (ne_eqb c.number k (λ same. omega (arith, less, here, same))) (zero-add (passes_on k cs) ∙ rest)

-- and one is on each of them
one_on : (k a : ℕ) (cs : List StealPassContent) → ((j : ℕ) (d : StealPassContent) → j < length cs → (get_or cs j d).number ≡ a + j) → a ≤ k → k < a + length cs → passes_on k cs ≡ 1
one_on k a [] numbers low high = absurd (omega (arith, low, high))
one_on k a (c ∷ cs) numbers low high =
    ⊎_elim
    (λ (same : k ≡ a). rw (eq-eqb c.number k (omega (arith, here, same))) (let rest = none_on k (a + 1) cs behind (omega (arith, same)) in let goal : 1 + passes_on k cs ≡ 1 = omega (arith, rest) in goal))
    (λ (other : k ≢ a). rw (ne_eqb c.number k (λ same. other (omega (arith, here, same)))) (zero-add (passes_on k cs) ∙ one_on k (a + 1) cs behind (above other) (omega (arith, high)))) (cases_eq k a)
  where
    here : c.number ≡ a + 0
    here = numbers 0 c (omega arith)

    behind : (j : ℕ) (d : StealPassContent) → j < length cs → (get_or cs j d).number ≡ (a + 1) + j
    behind j d less = let shift : a + suc j ≡ (a + 1) + j = omega arith in numbers (suc j) d (omega (arith, less)) ∙ shift

    above : k ≢ a → a + 1 ≤ k
    above other = omega (arith, low, other)

-- ---- own deques by the numbers of their workers

numbered_on : (owns : List OwnDequeContent) (o : OwnDequeContent) → AreNumbered owns → o.number ≡ length owns → AreNumbered (owns ++ o ∷ [])
numbered_on owns o are is k d less =
    numbered_more (λ (x : OwnDequeContent). x.number) 0 owns o (λ j e low. are j e low ∙ sym (zero-add j)) (is ∙ sym (zero-add (length owns))) k d less ∙ zero-add k

-- ---- taken apart

pub none_apart : (s : SharedContent) (crew : List DealtContent) (owns : List OwnDequeContent) (passes : List StealPassContent) (turns : List PostContent) → owns ≡ [] → passes ≡ [] → turns ≡ [] → AreApart s crew 0 owns passes turns
none_apart s crew owns passes turns no_own no_pass no_turn = subst (λ os. AreApart s crew 0 os passes turns) (sym no_own) (subst (λ cs. AreApart s crew 0 [] cs turns) (sym no_pass) (subst (λ ts. AreApart s crew 0 [] [] ts) (sym no_turn) nothing))
  where
    nothing : AreApart s crew 0 [] [] []
    nothing = record {
      ended = λ k d less. absurd (omega (arith, less));
      sums = λ h. refl;
      many = refl;
      numbers = λ k d less. absurd (omega (arith, less));
      parts = λ k d less. absurd (omega (arith, less));
      each = λ k less. refl;
      within = λ k d less. absurd (omega (arith, less));
    }

-- one worker more
pub one_apart : (s : SharedContent) (crew : List DealtContent) (n : ℕ) (owns : List OwnDequeContent) (passes : List StealPassContent) (turns : List PostContent) (o : OwnDequeContent) (cs : List StealPassContent) (ts : List PostContent)
    → AreApart s crew n owns passes turns → IsWorker s crew o cs ts → o.number ≡ n → AreApart s crew (n + 1) (owns ++ o ∷ []) (passes ++ cs) (turns ++ ts)
one_apart s crew n owns passes turns o cs ts are worker number = record {
  ended = All-append (IsEnded s) turns ts are.ended worker.ended;
  sums =
      λ h.
      let a : ℕ = weigh h (numbers_of (turns ++ ts)) in let b : ℕ = weigh h (numbers_of turns) in let c : ℕ = weigh h (numbers_of ts) in let e : a ≡ b + c = turns_append h turns ts in
      let f : ℕ = took h (owns ++ o ∷ []) in let g : ℕ = took h owns in let i : ℕ = weigh h o.hand.taken in let j : f ≡ g + i = summed_more (λ (x : OwnDequeContent). weigh h x.hand.taken) owns o in
      let k : ℕ = stolen h (passes ++ cs) in let l : ℕ = stolen h passes in let m : ℕ = stolen h cs in let p : k ≡ l + m = summed_append (λ (x : StealPassContent). weigh h x.taken) passes cs in
      let q : b ≡ g + l = are.sums h in let r : c ≡ i + m = worker.sums h in let goal : a ≡ f + k = omega arith in
      goal;
  many = length-append owns (o ∷ []) ∙ ap (λ m. m + 1) are.many;
  numbers = numbered_on owns o are.numbers (number ∙ sym are.many);
  parts = All-push (λ (x : OwnDequeContent). x.hand.parts + length crew ≡ all_parts) owns o are.parts worker.parts;
  each =
      λ k less.
      let one = one_on k 0 cs (λ j d low. worker.numbers j d low ∙ sym (zero-add j)) (omega arith) (omega (arith, less, worker.many)) in
      summed_append (is_on k) passes cs ∙ ap (λ m. m + passes_on k cs) (are.each k less) ∙ ap (λ m. n + m) one;
  within = All-append (λ (c : StealPassContent). c.number < length crew) passes cs are.within (λ k d less. subst (λ p. p < length crew) (sym (worker.numbers k d less)) (subst (λ m. k < m) worker.many less));
}

-- ---- taken back

-- whatever stands in for an element that is not there
pub at_any : (xs : List OwnDequeContent) (i : ℕ) (d e : OwnDequeContent) → i < length xs → get_or xs i d ≡ get_or xs i e
at_any [] i d e low = absurd (omega (arith, low))
at_any (x ∷ xs) zero d e low = refl
at_any (x ∷ xs) (suc i) d e low = at_any xs i d e (omega (arith, low))

pub none_back : (owns : List OwnDequeContent) → AreNumbered owns → AreTakenBack owns [] owns
none_back owns are = record {
  many = refl;
  numbers = are;
  parts = λ k d less. let p : ℕ = (get_or owns k d).hand.parts in let goal : p ≡ p + 0 = omega arith in goal;
  sums = λ h. let p : ℕ = took h owns in let goal : p ≡ p + 0 = omega arith in goal;
}

-- one pass more
pub one_back : (owns : List OwnDequeContent) (passes : List StealPassContent) (now : List OwnDequeContent) (c : StealPassContent) (k : ℕ) (o after : OwnDequeContent) → AreTakenBack owns passes now → k < length now → c.number ≡ k → o ≡ get_or now k o
    → after ≡ record { number = o.number; hand = hand (o.hand.parts + 1) o.hand.put (o.hand.taken ++ c.taken) } → AreTakenBack owns (passes ++ c ∷ []) (set now k after)
one_back owns passes now c k o after are less on here is = record {
  many = length-set now k after ∙ are.many;
  numbers =
      λ j d low.
      let low' : j < length now = subst (λ n. j < n) (length-set now k after) low in
      ⊎_elim
      (λ (same : j ≡ k). ap (λ i. (get_or (set now k after) i d).number) same ∙ ap (λ (x : OwnDequeContent). x.number) (get_or-set_same now k after d less ∙ is) ∙ ap (λ (x : OwnDequeContent). x.number) here ∙ are.numbers k o less ∙ sym same)
      (λ (other : j ≢ k). ap (λ (x : OwnDequeContent). x.number) (get_or-set_other now k j after d other) ∙ are.numbers j d low') (cases_eq j k);
  parts =
      λ j d low.
      let low' : j < length now = subst (λ n. j < n) (sym are.many) low in
      let a : ℕ = (get_or (set now k after) j d).hand.parts in let b : ℕ = (get_or owns j d).hand.parts in let m : ℕ = passes_on j passes in let n : ℕ = passes_on j (passes ++ c ∷ []) in let i : ℕ = is_on j c in
      let more : n ≡ m + i = summed_more (is_on j) passes c in
      let x : ℕ = (get_or now j d).hand.parts in let was : x ≡ b + m = are.parts j d low in
      ⊎_elim
      (λ (same : j ≡ k).
      let one : i ≡ 1 = rw (eq-eqb c.number j (on ∙ sym same)) refl in
      let y : ℕ = o.hand.parts in
      let at : a ≡ y + 1 = ap (λ e. (get_or (set now k after) e d).hand.parts) same ∙ ap (λ (u : OwnDequeContent). u.hand.parts) (get_or-set_same now k after d less ∙ is) in
      let old : y ≡ x = ap (λ (u : OwnDequeContent). u.hand.parts) (here ∙ at_any now k o d less) ∙ ap (λ e. (get_or now e d).hand.parts) (sym same) in
      let goal : a ≡ b + n = omega arith in goal)
      (λ (other : j ≢ k).
      let none : i ≡ 0 = rw (ne_eqb c.number j (λ same. other (sym same ∙ on))) refl in
      let at : a ≡ x = ap (λ (u : OwnDequeContent). u.hand.parts) (get_or-set_other now k j after d other) in
      let goal : a ≡ b + n = omega arith in goal) (cases_eq j k);
  sums =
      λ h.
      let a : ℕ = took h (set now k after) in let b : ℕ = took h now in let x : ℕ = weigh h (get_or now k o).hand.taken in let y : ℕ = weigh h after.hand.taken in let z : ℕ = weigh h c.taken in let u : ℕ = weigh h o.hand.taken in
      let change : a + x ≡ b + y = summed_set (λ (v : OwnDequeContent). weigh h v.hand.taken) now k after o less in
      let old : u ≡ x = ap (λ (v : OwnDequeContent). weigh h v.hand.taken) here in
      let new : y ≡ u + z = ap (λ (v : OwnDequeContent). weigh h v.hand.taken) is ∙ weigh_append h o.hand.taken c.taken in
      let p : ℕ = took h owns in let q : ℕ = stolen h passes in let was : b ≡ p + q = are.sums h in
      let r : ℕ = stolen h (passes ++ c ∷ []) in let more : r ≡ q + z = summed_more (λ (v : StealPassContent). weigh h v.taken) passes c in
      let goal : a ≡ p + r = omega arith in
      goal;
}

-- ---- settled

-- what was dealt to the deques of some workers is what was dealt to all, where these are all workers
summed_by : (h f : ℕ → ℕ) (a : ℕ) (owns : List OwnDequeContent) (crew : List DealtContent) → length owns ≡ length crew → ((k : ℕ) (d : OwnDequeContent) → k < length owns → (get_or owns k d).number ≡ a + k)
    → ((k : ℕ) (d : DealtContent) → k < length crew → f (a + k) ≡ weigh h (get_or crew k d).put) → summed (λ (o : OwnDequeContent). f o.number) owns ≡ dealt h crew
summed_by h f a [] [] many numbers are = refl
summed_by h f a [] (d ∷ crew) many numbers are = absurd (omega (arith, many))
summed_by h f a (o ∷ owns) [] many numbers are = absurd (omega (arith, many))
summed_by h f a (o ∷ owns) (d ∷ crew) many numbers are =
    let p : ℕ = f o.number in let q : ℕ = weigh h d.put in let same : p ≡ q = ap f (numbers 0 o (omega arith)) ∙ are 0 d (omega arith) in
    let x : ℕ = summed (λ (u : OwnDequeContent). f u.number) owns in let y : ℕ = dealt h crew in
    let rest : x ≡ y = summed_by h f (a + 1) owns crew (omega (arith, many)) (λ k e less. let shift : a + suc k ≡ (a + 1) + k = omega arith in numbers (suc k) e (omega (arith, less)) ∙ shift)
    (λ k e less. let shift : (a + 1) + k ≡ a + suc k = omega arith in ap f shift ∙ are (suc k) e (omega (arith, less))) in
    let goal : p + x ≡ q + y = omega arith in goal

pub all_dealt : (h : ℕ → ℕ) (owns : List OwnDequeContent) (crew : List DealtContent) → length owns ≡ length crew → AreNumbered owns → summed (λ (o : OwnDequeContent). weigh h (dealt_to crew o.number)) owns ≡ dealt h crew
all_dealt h owns crew many numbers =
    summed_by h (λ k. weigh h (dealt_to crew k)) 0 owns crew many (λ k d less. numbers k d less ∙ sym (zero-add k))
    (λ k d less. ap (λ i. weigh h (dealt_to crew i)) (zero-add k) ∙ rw (slice_get-get_or crew k d less) refl)

-- all parts are there again
pub all_back : (crew : List DealtContent) (n k p q m : ℕ) → n ≡ length crew → p + length crew ≡ all_parts → m ≡ n → q ≡ p + m → q ≡ all_parts
all_back crew n k p q m many parts each is = omega (arith, many, parts, each, is)
