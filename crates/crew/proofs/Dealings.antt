-- Turns are dealt to deques, and deques to workers.
use Rattle.std.proofs.Common.{◌≡◌, ℕ, zero, suc, ◌+◌, ◌-◌, ◌<◌, List, [], ◌∷◌, ◌++◌, length, map, take, drop, set, get_or, refl, ap, ◌∙◌, subst, arith}
use Rattle.std.specs.List.{range_with_len}
use Rattle.crew.specs.Crews.{OwnDequeContent, StealPassContent, DealtContent, WorkerContent, AreNumberedFrom, new_owns, pass_on, fewer}
use Rattle.crew.specs.Hands.{hand}

-- ---- deques with the numbers of their workers

pub owns_length : (p n : ℕ) (ds : List DealtContent) → length (new_owns p n ds) ≡ length ds
owns_length p n [] = refl
owns_length p n (d ∷ ds) = ap suc (owns_length p (n + 1) ds)

pub owns_append : (p n : ℕ) (ds : List DealtContent) (d : DealtContent) → new_owns p n (ds ++ d ∷ []) ≡ new_owns p n ds ++ record { number = n + length ds; hand = hand p d.put [] } ∷ []
owns_append p n [] d = let e : n ≡ n + 0 = omega arith in ap (λ k. record { number = k; hand = hand p d.put [] } ∷ []) e
owns_append p n (x ∷ ds) d =
    let e : (n + 1) + length ds ≡ n + suc (length ds) = omega arith in
    ap (λ os. record { number = n; hand = hand p x.put [] } ∷ os) (owns_append p (n + 1) ds d ∙ ap (λ k. new_owns p (n + 1) ds ++ record { number = k; hand = hand p d.put [] } ∷ []) e)

pub owns_fewer : (p n : ℕ) (ds : List DealtContent) → map fewer (new_owns p n ds) ≡ new_owns (p - 1) n ds
owns_fewer p n [] = refl
owns_fewer p n (d ∷ ds) = ap (λ os. record { number = n; hand = hand (p - 1) d.put [] } ∷ os) (owns_fewer p (n + 1) ds)

pub owns_passes : (p n : ℕ) (ds : List DealtContent) → map pass_on (new_owns p n ds) ≡ map (λ k. let c : StealPassContent = record { number = k; taken = [] } in c) (range_with_len n (length ds))
owns_passes p n [] = refl
owns_passes p n (d ∷ ds) = ap (λ cs. record { number = n; taken = [] } ∷ cs) (owns_passes p (n + 1) ds)

-- what each of them is
pub owns_each : (p n : ℕ) (ds : List DealtContent) (k : ℕ) (o : OwnDequeContent) → k < length (new_owns p n ds)
    → let x = get_or (new_owns p n ds) k o in (x.number ≡ n + k) × (x.hand.parts ≡ p) × (x.hand.taken ≡ [])
owns_each p n [] k o less = absurd (omega (arith, less))
owns_each p n (d ∷ ds) zero o less = let e : n ≡ n + 0 = omega arith in (e, refl, refl)
owns_each p n (d ∷ ds) (suc k) o less = let e = owns_each p (n + 1) ds k o (omega (arith, less)) in let f : (n + 1) + k ≡ n + suc k = omega arith in (e.0 ∙ f, e.1, e.2)

-- one element more is changed
pub front_more : {A : Type 0} → (f : A → A) (xs : List A) (k : ℕ) (d : A) → k < length xs → set (map f (take k xs) ++ drop k xs) k (f (get_or xs k d)) ≡ map f (take (k + 1) xs) ++ drop (k + 1) xs
front_more {A} f xs k d less = let e : suc k ≡ k + 1 = omega arith in subst (λ m. set (map f (take k xs) ++ drop k xs) k (f (get_or xs k d)) ≡ map f (take m xs) ++ drop m xs) e (by xs k less)
  where
    by : (xs : List A) (k : ℕ) → k < length xs → set (map f (take k xs) ++ drop k xs) k (f (get_or xs k d)) ≡ map f (take (suc k) xs) ++ drop (suc k) xs
    by [] k less = absurd (omega (arith, less))
    by (x ∷ xs) zero less = refl
    by (x ∷ xs) (suc k) less = ap (λ ys. f x ∷ ys) (by xs k (omega (arith, less)))

-- and the element that comes is as it was
pub at_front : {A : Type 0} → (f : A → A) (xs : List A) (k : ℕ) (d : A) → k < length xs → get_or (map f (take k xs) ++ drop k xs) k d ≡ get_or xs k d
at_front f [] k d less = absurd (omega (arith, less))
at_front f (x ∷ xs) zero d less = refl
at_front f (x ∷ xs) (suc k) d less = at_front f xs k d (omega (arith, less))

-- one worker more
pub numbered_on : (n : ℕ) (workers : List WorkerContent) (l : WorkerContent) → AreNumberedFrom n workers → l.own.number ≡ n + length workers → AreNumberedFrom n (workers ++ l ∷ [])
numbered_on n workers l are is = by n workers are is
  where
    by : (n : ℕ) (workers : List WorkerContent) → AreNumberedFrom n workers → l.own.number ≡ n + length workers → AreNumberedFrom n (workers ++ l ∷ [])
    by n [] are is zero d less = is
    by n [] are is (suc k) d less = absurd (omega (arith, less))
    by n (x ∷ workers) are is zero d less = are zero d (omega arith)
    by n (x ∷ workers) are is (suc k) d less =
        let shift : n + suc (length workers) ≡ (n + 1) + length workers = omega arith in let back : (n + 1) + k ≡ n + suc k = omega arith in
        by (n + 1) workers (λ j e low. let f : n + suc j ≡ (n + 1) + j = omega arith in are (suc j) e (omega (arith, low)) ∙ f) (is ∙ shift) k d (omega (arith, less)) ∙ back
