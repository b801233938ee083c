-- Numbers that come twice.
use Rattle.std.proofs.Common.{◌≡◌, ℕ, zero, suc, ◌+◌, ◌-◌, ◌<◌, ◌≤◌, Bool, true, false, ◌&&◌, not, List, [], ◌∷◌, length, drop, get_or, refl, ap, ◌∙◌, sym, arith, ◌⊎◌, inl, inr, cond, nat_lt}
use Rattle.std.specs.Prelude.{◌==◌}
use Rattle.std.specs.Ordering.{nat_cmp, is_eq}
use Rattle.std.specs.declared.cmp.Ordering.TheVariants.{Less, Equal, Greater}
use Rattle.std.specs.List.{list_any}
use Rattle.std.proofs.lemmas.Bool.{cases_eq, eq-eqb, ne_eqb, le-ltb}
use Rattle.std.proofs.lemmas.List.{drop_more}
use Rattle.pieces.specs.Distinct.{is_none_of, are_distinct}

-- numbers that come twice among the last come twice among all
repeat_drop : (i : ℕ) (xs : List ℕ) → are_distinct (drop i xs) ≡ false → are_distinct xs ≡ false
repeat_drop zero xs twice = twice
repeat_drop (suc i) [] twice = twice
repeat_drop (suc i) (x ∷ xs) twice = by (is_none_of xs x) (are_distinct xs) (repeat_drop i xs twice)
  where
    by : (a b : Bool) → b ≡ false → (a && b) ≡ false
    by true b h = h
    by false b h = refl

-- the number before the last ones is one of them
pub repeats : (xs : List ℕ) (i : ℕ) → 0 < i → i ≤ length xs → not (is_none_of (drop i xs) (get_or xs (i - 1) 0)) ≡ true → false ≡ are_distinct xs
repeats xs i more within known =
    let back : (i - 1) + 1 ≡ i = omega arith in
    let x = get_or xs (i - 1) 0 in
    let next : drop (i - 1) xs ≡ x ∷ drop i xs = drop_more xs (i - 1) 0 (omega arith) ∙ ap (λ k. x ∷ drop k xs) back in
    sym (repeat_drop (i - 1) xs (ap are_distinct next ∙ by (is_none_of (drop i xs) x) (are_distinct (drop i xs)) known))
  where
    by : (a b : Bool) → not a ≡ true → (a && b) ≡ false
    by true b h = absurd (cc)
    by false b h = refl

-- numbers that compare as equal are equal
same_number : (x q : ℕ) → is_eq (nat_cmp x q) ≡ (x == q)
same_number x q = by (cases_eq x q)
  where
    apart : (t : Bool) → is_eq (cond t Less (cond false Equal Greater)) ≡ false
    apart true = refl
    apart false = refl

    by : (x ≡ q) ⊎ (x ≡ q → ⊥) → is_eq (nat_cmp x q) ≡ (x == q)
    by (inl same) = rw (sym same) (rw (le-ltb x x (omega arith), eq-eqb x x refl) refl)
    by (inr differ) = rw (ne_eqb x q differ) (apart (nat_lt x q))

-- what a set has of the last numbers, where no two of them are one
abbrev pub HasLast : List ℕ → List ℕ → ℕ → Type 0
HasLast keys xs i = ((q : ℕ) → list_any (λ k. is_eq (nat_cmp q k)) keys ≡ not (is_none_of (drop i xs) q)) × (are_distinct (drop i xs) ≡ true) × (i ≤ length xs)

-- one number more
pub one_more : (keys after xs : List ℕ) (i : ℕ) → 0 < i → HasLast keys xs i → not (list_any (λ k. is_eq (nat_cmp (get_or xs (i - 1) 0) k)) keys) ≡ true
    → ((q : ℕ) → list_any (λ k. is_eq (nat_cmp q k)) after ≡ cond (is_eq (nat_cmp (get_or xs (i - 1) 0) q)) true (list_any (λ k. is_eq (nat_cmp q k)) keys)) → HasLast after xs (i - 1)
one_more keys after xs i more has new one =
    let back : (i - 1) + 1 ≡ i = omega arith in
    let x = get_or xs (i - 1) 0 in
    let next : drop (i - 1) xs ≡ x ∷ drop i xs = drop_more xs (i - 1) 0 (omega (arith, has.2)) ∙ ap (λ k. x ∷ drop k xs) back in (
      λ q. one q ∙ ap (λ b. cond (is_eq (nat_cmp x q)) true b) (has.0 q) ∙ ap (λ t. cond t true (not (is_none_of (drop i xs) q))) (same_number x q) ∙ by (x == q) (is_none_of (drop i xs) q)
          ∙ sym (ap (λ ys. not (is_none_of ys q)) next),
      ap are_distinct next ∙ both (is_none_of (drop i xs) x) (are_distinct (drop i xs)) (sym (ap not (has.0 x)) ∙ new) has.1,
      omega (arith, has.2),
    )
  where
    by : (t b : Bool) → cond t true (not b) ≡ not (not t && b)
    by true b = refl
    by false b = refl

    both : (a b : Bool) → not (not a) ≡ true → b ≡ true → (a && b) ≡ true
    both true b h is = is
    both false b h is = absurd (cc)
