-- Parts of lists in which no number comes twice.
use Rattle.std.proofs.Common.{◌≡◌, ℕ, zero, suc, Bool, true, false, ◌&&◌, List, [], ◌∷◌, ◌++◌, map, take, drop, append_assoc, refl, ap, ◌∙◌, sym}
use Rattle.std.specs.List.{list_all, flat_map}
use Rattle.pieces.specs.Distinct.{is_none_of, are_distinct}
use Rattle.pieces.specs.Contents.{puts_of, ends_of}
use Rattle.pieces.specs.declared.link.Store.{Store}
use Rattle.pieces.specs.declared.moving.Pair.{Pair}

-- both of two tests
both : (a b : Bool) → (a && b) ≡ true → (a ≡ true) × (b ≡ true)
both true true h = (refl, refl)
both true false h = absurd (cc)
both false b h = absurd (cc)

and_true : (a b : Bool) → a ≡ true → b ≡ true → (a && b) ≡ true
and_true true true p q = refl
and_true true false p q = absurd (cc)
and_true false b p q = absurd (cc)

-- what holds of each of two lists holds of each
pub all_split : {A : Type 0} (test : A → Bool) (xs ys : List A) → list_all test (xs ++ ys) ≡ true → (list_all test xs ≡ true) × (list_all test ys ≡ true)
all_split test [] ys h = (refl, h)
all_split test (x ∷ xs) ys h =
    let here = both (test x) (list_all test (xs ++ ys)) h in
    let rest = all_split test xs ys here.1 in
    (and_true (test x) (list_all test xs) here.0 rest.0, rest.1)

-- a list of distinct numbers is made of two
pub distinct_split : (is js : List ℕ) → are_distinct (is ++ js) ≡ true → (are_distinct is ≡ true) × (are_distinct js ≡ true)
distinct_split [] js h = (refl, h)
distinct_split (i ∷ is) js h =
    let here = both (is_none_of (is ++ js) i) (are_distinct (is ++ js)) h in
    let rest = distinct_split is js here.1 in
    (and_true (is_none_of is i) (are_distinct is) (all_split _ is js here.0).0 rest.0, rest.1)

-- a map of a list in two
split_map : {A : Type 0} (f : A → ℕ) (n : ℕ) (xs : List A) → map f xs ≡ map f (take n xs) ++ map f (drop n xs)
split_map f zero xs = refl
split_map f (suc n) [] = refl
split_map f (suc n) (x ∷ xs) = ap (λ ys. f x ∷ ys) (split_map f n xs)

split_flat : {A : Type 0} (f : A → List ℕ) (n : ℕ) (xs : List A) → flat_map f xs ≡ flat_map f (take n xs) ++ flat_map f (drop n xs)
split_flat f zero xs = refl
split_flat f (suc n) [] = refl
split_flat f (suc n) (x ∷ xs) = ap (λ ys. f x ++ ys) (split_flat f n xs) ∙ simp append_assoc

-- parts of stores and of pairs
pub parts_of_stores : (n : ℕ) (xs : List Store) → are_distinct (puts_of xs) ≡ true → (are_distinct (puts_of (take n xs)) ≡ true) × (are_distinct (puts_of (drop n xs)) ≡ true)
parts_of_stores n xs h = distinct_split (puts_of (take n xs)) (puts_of (drop n xs)) (sym (ap are_distinct (split_map (λ s. s.put) n xs)) ∙ h)

pub parts_of_pairs : (n : ℕ) (xs : List Pair) → are_distinct (ends_of xs) ≡ true → (are_distinct (ends_of (take n xs)) ≡ true) × (are_distinct (ends_of (drop n xs)) ≡ true)
parts_of_pairs n xs h = distinct_split (ends_of (take n xs)) (ends_of (drop n xs)) (sym (ap are_distinct (split_flat (λ p. p.taken ∷ p.put ∷ []) n xs)) ∙ h)
