-- The position of a place in a list of two parts.
use Rattle.std.proofs.Common.{◌≡◌, ℕ, zero, suc, ◌+◌, ◌<◌, true, false, Bool, not, nat_lt, List, [], ◌∷◌, ◌++◌, length, get_or, Option, Some, None, option_map, refl, sym, ap, ◌∙◌, arith, if◌then◌else◌}
use Rattle.std.specs.Prelude.{position}
use Rattle.std.specs.List.{prefix_len}
use Rattle.std.proofs.lemmas.Bool.Decides.{nat_tests}

module _ {X : Type 0} (test : X → Bool) where
  -- the position, one element after another
  abbrev at : List X → Option ℕ
  at [] = None
  at (x ∷ xs) = if test x then Some 0 else option_map suc (at xs)

  is_at : (xs : List X) → position test xs ≡ at xs
  is_at [] = refl
  is_at (x ∷ xs) = by (test x) (prefix_len (λ y. not (test y)) xs) (at xs) (is_at xs)
    where
      next : (b : Bool) (k : ℕ) (o : Option ℕ) → nat_lt k (length xs) ≡ b → (if b then Some k else None) ≡ o → (if nat_lt (1 + k) (suc (length xs)) then Some (1 + k) else None) ≡ option_map suc o
      next true k o less is = let more : nat_lt (1 + k) (suc (length xs)) ≡ true = grind (arith, nat_tests) in rw more (ap Some (omega arith) ∙ ap (option_map suc) is)
      next false k o less is = let more : nat_lt (1 + k) (suc (length xs)) ≡ false = grind (arith, nat_tests) in rw more (ap (option_map suc) is)

      by : (b : Bool) (k : ℕ) (o : Option ℕ) → (if nat_lt k (length xs) then Some k else None) ≡ o
          → (if nat_lt (if not b then 1 + k else 0) (suc (length xs)) then Some (if not b then 1 + k else 0) else None) ≡ (if b then Some 0 else option_map suc o)
      by true k o is = let some : nat_lt 0 (suc (length xs)) ≡ true = grind (arith, nat_tests) in rw some refl
      by false k o is = next (nat_lt k (length xs)) k o refl is

  -- the first part decides, where the place stands in it
  at_first : (xs ys : List X) (i : ℕ) → at xs ≡ Some i → at (xs ++ ys) ≡ Some i
  at_first [] ys i is = absurd (cc is)
  at_first (x ∷ xs) ys i is = by (test x) (at xs) i (λ j. at_first xs ys j) is
    where
      by : (b : Bool) (o : Option ℕ) (i : ℕ) → ((j : ℕ) → o ≡ Some j → at (xs ++ ys) ≡ Some j) → (if b then Some 0 else option_map suc o) ≡ Some i → (if b then Some 0 else option_map suc (at (xs ++ ys))) ≡ Some i
      by true o i rest is = is
      by false None i rest is = absurd (cc is)
      by false (Some j) i rest is = ap (option_map suc) (rest j refl) ∙ is

  at_second : (xs ys : List X) → at xs ≡ None → at (xs ++ ys) ≡ option_map (λ r. length xs + r) (at ys)
  at_second [] ys is = same (at ys)
    where
      same : (o : Option ℕ) → o ≡ option_map (λ r. 0 + r) o
      same None = refl
      same (Some r) = ap Some (omega arith)
  at_second (x ∷ xs) ys is = by (test x) (at xs) (at_second xs ys) is
    where
      on : (o : Option ℕ) → option_map suc (option_map (λ r. length xs + r) o) ≡ option_map (λ r. suc (length xs) + r) o
      on None = refl
      on (Some r) = ap Some (omega arith)

      by : (b : Bool) (o : Option ℕ) → (o ≡ None → at (xs ++ ys) ≡ option_map (λ r. length xs + r) (at ys)) → (if b then Some 0 else option_map suc o) ≡ None
          → (if b then Some 0 else option_map suc (at (xs ++ ys))) ≡ option_map (λ r. suc (length xs) + r) (at ys)
      by true o rest is = absurd (cc is)
      by false (Some j) rest is = absurd (cc is)
      by false None rest is = ap (option_map suc) (rest refl) ∙ on (at ys)

  pub found_first : (xs ys : List X) (i : ℕ) → position test xs ≡ Some i → position test (xs ++ ys) ≡ Some i
  found_first xs ys i is = is_at (xs ++ ys) ∙ at_first xs ys i (sym (is_at xs) ∙ is)

  pub found_second : (xs ys : List X) → position test xs ≡ None → position test (xs ++ ys) ≡ option_map (λ r. length xs + r) (position test ys)
  found_second xs ys none = is_at (xs ++ ys) ∙ at_second xs ys (sym (is_at xs) ∙ none) ∙ ap (option_map (λ r. length xs + r)) (sym (is_at ys))

  none_at : (xs : List X) → at xs ≡ None → (k : ℕ) (d : X) → k < length xs → test (get_or xs k d) ≡ false
  none_at [] is k d within = absurd (omega (arith, within))
  none_at (x ∷ xs) is k d within = by (test x) refl (at xs) (none_at xs) is k within
    where
      by : (b : Bool) → test x ≡ b → (o : Option ℕ) → (o ≡ None → (k : ℕ) (d : X) → k < length xs → test (get_or xs k d) ≡ false) → (if b then Some 0 else option_map suc o) ≡ None
          → (k : ℕ) → k < suc (length xs) → test (get_or (x ∷ xs) k d) ≡ false
      by true here o rest is k within = absurd (cc is)
      by false here (Some r) rest is k within = absurd (cc is)
      by false here None rest is zero within = here
      by false here None rest is (suc k) within = rest refl k d (omega (arith, within))

  -- where the place is not found, it stands nowhere
  pub none_stands : (xs : List X) → position test xs ≡ None → (k : ℕ) (d : X) → k < length xs → test (get_or xs k d) ≡ false
  none_stands xs none = none_at xs (sym (is_at xs) ∙ none)
