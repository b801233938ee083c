-- Numbers sorted, each once.
use Rattle.std.proofs.Common.{◌≡◌, ⊎_elim, ℕ, zero, suc, ◌+◌, ◌-◌, ◌<◌, ◌≤◌, Bool, true, false, ◌&&◌, ◌||◌, not, List, [], ◌∷◌, ◌++◌, length, get_or, refl, ap, ◌∙◌, sym, subst, arith}
use Rattle.std.specs.Prelude.{◌==◌}
use Rattle.std.specs.List.{list_any, list_all, Contains, dedup}
use Rattle.std.specs.List.Sorted.{IsPermutation, IsStrictlyIncreasing}
use Rattle.std.proofs.Math.Dec.{eqb}
use Rattle.std.proofs.lemmas.Bool.{cases_lt, eqb-true, eq-eqb, ne_eqb, true≢false}
use Rattle.std.proofs.lemmas.List.{get_or_default}
use Rattle.std.proofs.lemmas.List.Kept.{AllPairs-from_increasing, Contains-dedup_nat}
use Rattle.std.proofs.lemmas.List.Sorted.{list_any-IsPermutation}
use Rattle.pieces.specs.Distinct.{is_none_of, are_distinct}

-- ---- among some numbers

contains_of : (xs : List ℕ) (i : ℕ) → is_none_of xs i ≡ false → Contains xs i
contains_of [] i there = absurd (cc)
contains_of (x ∷ xs) i there = by (x == i) refl there (contains_of xs i)
  where
    by : (t : Bool) → (x == i) ≡ t → (not t && is_none_of xs i) ≡ false → (is_none_of xs i ≡ false → Contains xs i) → Contains (x ∷ xs) i
    by true is h later = (0, omega arith, eqb-true x i is)
    by false is h later = let m = later h in (suc m.0, omega (arith, m.1), m.2)

of_contains : (xs : List ℕ) (i k : ℕ) → k < length xs → get_or xs k i ≡ i → is_none_of xs i ≡ false
of_contains [] i k less at = absurd (omega (arith, less))
of_contains (x ∷ xs) i zero less at = ap (λ t. not t && is_none_of xs i) (eq-eqb x i at)
of_contains (x ∷ xs) i (suc k) less at = by (not (x == i)) (of_contains xs i k (omega (arith, less)) at)
  where
    by : (t : Bool) → is_none_of xs i ≡ false → (t && is_none_of xs i) ≡ false
    by true h = h
    by false h = refl

none_any : (xs : List ℕ) (i : ℕ) → is_none_of xs i ≡ not (list_any (λ j. j == i) xs)
none_any [] i = refl
none_any (x ∷ xs) i = by (x == i) (none_any xs i)
  where
    by : (t : Bool) → is_none_of xs i ≡ not (list_any (λ j. j == i) xs) → (not t && is_none_of xs i) ≡ not (t || list_any (λ j. j == i) xs)
    by true h = refl
    by false h = h

-- each number of a list is among those that a sort and a `dedup` leave
pub all_there : (xs ys zs : List ℕ) → IsPermutation xs ys → zs ≡ dedup eqb ys → (i : ℕ) → is_none_of xs i ≡ false → is_none_of zs i ≡ false
all_there xs ys zs order is i there =
    let sorted : is_none_of ys i ≡ false = none_any ys i ∙ ap not (sym (list_any-IsPermutation (λ j. j == i) xs ys order)) ∙ sym (none_any xs i) ∙ there in
    let found = Contains-dedup_nat ys i (contains_of ys i sorted) in
    ap (λ ws. is_none_of ws i) is ∙ of_contains (dedup eqb ys) i found.0 found.1 found.2

-- where each number of a list is, there is one if that list has any
pub some_there : (xs ys : List ℕ) → ((i : ℕ) → is_none_of xs i ≡ false → is_none_of ys i ≡ false) → 0 < length xs → 0 < length ys
some_there [] ys there some = absurd (omega (arith, some))
some_there (x ∷ xs) [] there some = absurd (true≢false (there x (ap (λ t. not t && is_none_of xs x) (eq-eqb x x refl))))
some_there (x ∷ xs) (y ∷ ys) there some = omega arith

-- ---- rising numbers

tail_rises : (x : ℕ) (xs : List ℕ) → IsStrictlyIncreasing (x ∷ xs) → IsStrictlyIncreasing xs
tail_rises x xs rises k less = let next : suc k + 1 ≡ suc (k + 1) = omega arith in subst (λ n. get_or xs k 0 < get_or (x ∷ xs) n 0) next (rises (suc k) (omega (arith, less)))

above : (x : ℕ) (xs : List ℕ) (y : ℕ) → IsStrictlyIncreasing xs → (0 < length xs → x < get_or xs 0 0) → y ≤ x → is_none_of xs y ≡ true
above x [] y rises first low = refl
above x (z ∷ xs) y rises first low =
    let here : x < z = first (omega arith) in
    ap (λ t. not t && is_none_of xs y) (ne_eqb z y (λ is. omega (arith, is, here, low))) ∙ above z xs y (tail_rises z xs rises) (λ some. rises 0 (omega (arith, some))) (omega (arith, here, low))

pub rising_distinct : (xs : List ℕ) → IsStrictlyIncreasing xs → are_distinct xs ≡ true
rising_distinct [] rises = refl
rising_distinct (x ∷ xs) rises = by (is_none_of xs x) (above x xs x (tail_rises x xs rises) (λ some. rises 0 (omega (arith, some))) (omega arith)) (rising_distinct xs (tail_rises x xs rises))
  where
    by : (t : Bool) → t ≡ true → are_distinct xs ≡ true → (t && are_distinct xs) ≡ true
    by true is h = h
    by false is h = absurd (cc)

-- a number of which those before a position are below, and that at the position is above, is none of rising numbers
pub none_between : (xs : List ℕ) (x k : ℕ) → IsStrictlyIncreasing xs → k ≤ length xs → (0 < k → get_or xs (k - 1) 0 < x) → (k < length xs → x < get_or xs k 0) → is_none_of xs x ≡ true
none_between xs x k rises within before behind = none (is_none_of xs x) refl
  where
    none : (t : Bool) → is_none_of xs x ≡ t → t ≡ true
    none true is = refl
    none false is =
        let there = contains_of xs x is in
        let m : ℕ = there.0 in
        let a : ℕ = get_or xs m 0 in
        let b : ℕ = get_or xs (k - 1) 0 in
        let c : ℕ = get_or xs k 0 in
        let e : a ≡ x = sym (get_or_default xs m x 0 there.1) ∙ there.2 in
        absurd (⊎_elim
        (λ (low : m < k). let lt : b < x = before (omega (arith, low)) in ⊎_elim
        (λ (l : m < k - 1). let less : a < b = AllPairs-from_increasing xs rises m (k - 1) 0 l (omega (arith, low, within)) in omega (arith, lt, less, e))
        (λ (l : k - 1 ≤ m). let same : m ≡ k - 1 = omega (arith, low, l) in let f : a ≡ b = ap (λ n. get_or xs n 0) same in omega (arith, lt, e, f))
        (cases_lt m (k - 1)))
        (λ (high : k ≤ m). let lt : x < c = behind (omega (arith, high, there.1)) in ⊎_elim
        (λ (l : k < m). let less : c < a = AllPairs-from_increasing xs rises k m 0 l there.1 in omega (arith, lt, less, e))
        (λ (l : m ≤ k). let same : m ≡ k = omega (arith, high, l) in let f : a ≡ c = ap (λ n. get_or xs n 0) same in omega (arith, lt, e, f))
        (cases_lt k m))
        (cases_lt m k))

-- ---- two lists, one behind the other

none_behind : (x : ℕ) (xs ys : List ℕ) → is_none_of xs x ≡ true → is_none_of ys x ≡ true → is_none_of (xs ++ ys) x ≡ true
none_behind x [] ys here there = there
none_behind x (z ∷ xs) ys here there = by (not (z == x)) here (λ h. none_behind x xs ys h there)
  where
    by : (t : Bool) → (t && is_none_of xs x) ≡ true → (is_none_of xs x ≡ true → is_none_of (xs ++ ys) x ≡ true) → (t && is_none_of (xs ++ ys) x) ≡ true
    by true h later = later h
    by false h later = absurd (cc)

apart_from : (x y : ℕ) → (x == y) ≡ false → (y == x) ≡ false
apart_from x y is = ne_eqb y x (λ same. true≢false (sym (eq-eqb x y (sym same)) ∙ is))

-- if none of the others is among some numbers, none of these is among the others
not_among : (x : ℕ) (xs ys : List ℕ) → list_all (is_none_of (x ∷ xs)) ys ≡ true → (is_none_of ys x ≡ true) × (list_all (is_none_of xs) ys ≡ true)
not_among x xs [] all = (refl, refl)
not_among x xs (y ∷ ys) all = by (x == y) refl (is_none_of xs y) all (not_among x xs ys)
  where
    by : (t : Bool) → (x == y) ≡ t → (b : Bool) → ((not t && b) && list_all (is_none_of (x ∷ xs)) ys) ≡ true
        → (list_all (is_none_of (x ∷ xs)) ys ≡ true → (is_none_of ys x ≡ true) × (list_all (is_none_of xs) ys ≡ true)) → (is_none_of (y ∷ ys) x ≡ true) × ((b && list_all (is_none_of xs) ys) ≡ true)
    by true is b h rest = absurd (cc)
    by false is true h rest = let m = rest h in (ap (λ t. not t && is_none_of ys x) (apart_from x y is) ∙ m.0, m.1)
    by false is false h rest = absurd (cc)

pub distinct_behind : (xs ys : List ℕ) → are_distinct xs ≡ true → are_distinct ys ≡ true → list_all (is_none_of xs) ys ≡ true → are_distinct (xs ++ ys) ≡ true
distinct_behind [] ys one two all = two
distinct_behind (x ∷ xs) ys one two all = let rest = not_among x xs ys all in by (is_none_of xs x) refl one rest.0 (λ h. distinct_behind xs ys h two rest.1)
  where
    by : (t : Bool) → is_none_of xs x ≡ t → (t && are_distinct xs) ≡ true → is_none_of ys x ≡ true → (are_distinct xs ≡ true → are_distinct (xs ++ ys) ≡ true) → are_distinct (x ∷ (xs ++ ys)) ≡ true
    by true is h there later = ap (λ t. t && are_distinct (xs ++ ys)) (none_behind x xs ys is there) ∙ later h
    by false is h there later = absurd (cc)

-- a list that was empty, with one number
pub distinct_one : (xs : List ℕ) (n : ℕ) → are_distinct xs ≡ true → length xs ≡ 0 → are_distinct (xs ++ n ∷ []) ≡ true
distinct_one [] n once none = refl
distinct_one (x ∷ xs) n once none = absurd (omega (arith, none))
