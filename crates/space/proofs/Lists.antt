-- Reads of a list of nodes, and the first piece of a list.
use Rattle.std.proofs.Common.{◌≡◌, ℕ, zero, suc, ◌≤◌, ◌<◌, List, [], ◌∷◌, length, take, drop, min, get_or, refl, ap, ◌∙◌, arith, ◌⊎◌, inl, inr}
use Rattle.std.proofs.Math.Nat.{min-eq_left, min-eq_right}
use Rattle.std.proofs.lemmas.Bool.{cases_lt}
use Rattle.std.proofs.lemmas.List.{length-drop}
use Rattle.space.specs.declared.node.Node.{Node}
use Rattle.space.specs.Slices.{pieces}

-- what a read past the end would give
abbrev pub blank : Node
blank = record { place = record { space = 0; page = 0 }; depth = 0 }

-- a read within the list does not depend on what a read past its end would give
pub read_any : (ns : List Node) (i : ℕ) (a b : Node) → i < length ns → get_or ns i a ≡ get_or ns i b
read_any [] i a b within = absurd (omega (arith, within))
read_any (m ∷ ns) zero a b within = refl
read_any (m ∷ ns) (suc i) a b within = read_any ns i a b (omega (arith, within))

module _ {A : Type 0} where
  pub take_all : (n : ℕ) (xs : List A) → length xs ≤ n → take n xs ≡ xs
  take_all zero [] upto = refl
  take_all (suc n) [] upto = refl
  take_all zero (x ∷ xs) upto = absurd (omega (arith, upto))
  take_all (suc n) (x ∷ xs) upto = ap (λ ys. x ∷ ys) (take_all n xs (omega (arith, upto)))

  pub drop_all : (n : ℕ) (xs : List A) → length xs ≤ n → drop n xs ≡ []
  drop_all zero [] upto = refl
  drop_all (suc n) [] upto = refl
  drop_all zero (x ∷ xs) upto = absurd (omega (arith, upto))
  drop_all (suc n) (x ∷ xs) upto = drop_all n xs (omega (arith, upto))

  -- ---- pieces

  -- room for pieces changes nothing where there is enough
  pieces_same : (n m most : ℕ) (xs : List A) → 1 ≤ most → length xs ≤ n → length xs ≤ m → pieces n most xs ≡ pieces m most xs
  pieces_same zero zero most [] some upto upto_m = refl
  pieces_same zero (suc m) most [] some upto upto_m = refl
  pieces_same (suc n) zero most [] some upto upto_m = refl
  pieces_same (suc n) (suc m) most [] some upto upto_m = refl
  pieces_same zero m most (x ∷ xs) some upto upto_m = absurd (omega (arith, upto))
  pieces_same (suc n) zero most (x ∷ xs) some upto upto_m = absurd (omega (arith, upto_m))
  pieces_same (suc n) (suc m) most (x ∷ xs) some upto upto_m =
      let dropped = length-drop most (x ∷ xs) in
      ap (λ ps. take most (x ∷ xs) ∷ ps) (pieces_same n m most (drop most (x ∷ xs)) some (omega (arith, dropped, some, upto)) (omega (arith, dropped, some, upto_m)))

  -- the first piece, and the others
  pub first_piece : (most : ℕ) (xs : List A) → 1 ≤ most → 0 < length xs → pieces (length xs) most xs ≡ take (min most (length xs)) xs ∷ pieces (length (drop (min most (length xs)) xs)) most (drop (min most (length xs)) xs)
  first_piece most [] some more = absurd (omega (arith, more))
  first_piece most (x ∷ xs) some more =
      let dropped = length-drop most (x ∷ xs) in
      let left : length (drop most (x ∷ xs)) ≤ length xs = omega (arith, dropped, some) in
      ap (λ ps. take most (x ∷ xs) ∷ ps) (pieces_same (length xs) (length (drop most (x ∷ xs))) most (drop most (x ∷ xs)) some left (omega arith))
      ∙ by (x ∷ xs) (min most (length (x ∷ xs))) (cases most (length (x ∷ xs)))
    where
      cases : (m n : ℕ) → (min m n ≡ m) ⊎ ((min m n ≡ n) × (n ≤ m))
      cases m n = by_order (cases_lt n m)
        where
          by_order : (n < m) ⊎ (m ≤ n) → (min m n ≡ m) ⊎ ((min m n ≡ n) × (n ≤ m))
          by_order (inl less) = inr (min-eq_right (omega (arith, less)), omega (arith, less))
          by_order (inr upto) = inl (min-eq_left upto)

      by : (ys : List A) (k : ℕ) → (k ≡ most) ⊎ ((k ≡ length ys) × (length ys ≤ most)) → take most ys ∷ pieces (length (drop most ys)) most (drop most ys) ≡ take k ys ∷ pieces (length (drop k ys)) most (drop k ys)
      by ys k (inl same) = rw same refl
      by ys k (inr all) = rw (take_all most ys all.1, drop_all most ys all.1, take_all k ys (omega (arith, all.0)), drop_all k ys (omega (arith, all.0))) refl
