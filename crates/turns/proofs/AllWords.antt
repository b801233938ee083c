-- All words of a phase are shared.
use Rattle.std.proofs.Common.{◌≡◌, ◌≢◌, ℕ, zero, suc, ◌+◌, ◌<◌, ◌≤◌, Bool, true, false, ◌&&◌, not, List, [], ◌∷◌, length, map, get_or, set, take, Some, refl, ap, ◌∙◌, sym, subst, arith, nat_lt}
use Rattle.std.specs.Prelude.{◌==◌, slice_get}
use Rattle.std.specs.List.{flat_map, list_all, All, range_with_len}
use Rattle.std.proofs.lemmas.Bool.{eqb-true, eq-eqb, ne_eqb, ltb-true, true≢false}
use Rattle.std.proofs.lemmas.Option.{slice_get-get_or}
use Rattle.std.proofs.lemmas.List.FromFn.{length-range_with_len, get_or-range_with_len, fill_by_all}
use lib.ListN.{get_elem?}
use mathlib.Core.Option.{some}
use Rattle.pieces.specs.Distinct.{is_none_of, are_distinct}
use Rattle.pieces.specs.Phases.{CanBeWorked, IsPiece, changes}
use Rattle.pieces.specs.declared.piece.Piece.{Piece}
use Rattle.turns.specs.SharedWords.{IsPhase, common, replaced}
use Rattle.turns.specs.Tables.{indexes_of, listed}
use Rattle.turns.specs.declared.sharing.Indexes.{Indexes}
use Rattle.turns.specs.declared.sharing.Indexes.TheVariants as indexes
use Rattle.turns.proofs.Openings.{phase, changes_within, common_within}
use Rattle.turns.proofs.Replacing.{one_put_back}

-- those before are not among these
before_range : (a n i : ℕ) → i < a → is_none_of (range_with_len a n) i ≡ true
before_range a zero i less = refl
before_range a (suc n) i less =
    ap (λ t. not t && is_none_of (range_with_len (a + 1) n) i) (ne_eqb a i (λ is. omega (arith, less, is))) ∙ before_range (a + 1) n i (omega (arith, less))

range_distinct : (a n : ℕ) → are_distinct (range_with_len a n) ≡ true
range_distinct a zero = refl
range_distinct a (suc n) = ap (λ t. t && are_distinct (range_with_len (a + 1) n)) (before_range (a + 1) n a (omega arith)) ∙ range_distinct (a + 1) n

-- those from a on are, if they are few enough
in_range : (a n i : ℕ) → a ≤ i → i < a + n → is_none_of (range_with_len a n) i ≡ false
in_range a zero i low high = absurd (omega (arith, low, high))
in_range a (suc n) i low high = by (a == i) refl (λ apart. in_range (a + 1) n i (omega (arith, low, apart)) (omega (arith, high)))
  where
    by : (t : Bool) → (a == i) ≡ t → (a ≢ i → is_none_of (range_with_len (a + 1) n) i ≡ false) → (not t && is_none_of (range_with_len (a + 1) n) i) ≡ false
    by true is later = refl
    by false is later = later (λ same. true≢false (sym (eq-eqb a i same) ∙ is))

below_range : (a n i : ℕ) → is_none_of (range_with_len a n) i ≡ false → i < a + n
below_range a zero i there = absurd (true≢false there)
below_range a (suc n) i there = by (a == i) refl there (below_range (a + 1) n i)
  where
    by : (t : Bool) → (a == i) ≡ t → (not t && is_none_of (range_with_len (a + 1) n) i) ≡ false → (is_none_of (range_with_len (a + 1) n) i ≡ false → i < a + 1 + n) → i < a + suc n
    by true is among later = let same : a ≡ i = eqb-true a i is in omega (arith, same)
    by false is among later = let less : i < a + 1 + n = later among in omega (arith, less)

-- what passes of these passes for each of them
passes_there : (test : ℕ → Bool) (js : List ℕ) (i : ℕ) → list_all test js ≡ true → is_none_of js i ≡ false → test i ≡ true
passes_there test [] i all there = absurd (true≢false there)
passes_there test (j ∷ js) i all there = by (j == i) refl (test j) refl there all (passes_there test js i)
  where
    by : (t : Bool) → (j == i) ≡ t → (u : Bool) → test j ≡ u → (not t && is_none_of js i) ≡ false → (u && list_all test js) ≡ true → (list_all test js ≡ true → is_none_of js i ≡ false → test i ≡ true) → test i ≡ true
    by t is false fails among pass later = absurd (true≢false (sym pass))
    by true is true passes among pass later = ap test (sym (eqb-true j i is)) ∙ passes
    by false is true passes among pass later = later pass among

-- ---- at opening

pub all_are_some : (n : ℕ) → 0 < n → 0 < length (range_with_len 0 n)
all_are_some n less = subst (λ m. 0 < m) (sym (length-range_with_len 0 n)) less

pub all_are_within : (n : ℕ) → All (λ i. i < n) (range_with_len 0 n)
all_are_within n k d less =
    let low : k < n = subst (λ m. k < m) (length-range_with_len 0 n) less in
    subst (λ i. i < n) (sym (get_or-range_with_len 0 n k d low)) (omega (arith, low))

-- a phase whose words are all shared
pub all_phase : (w : List ℕ) (ps : List Piece) (m : ℕ) → All IsPiece ps → CanBeWorked w ps → IsPhase (record { words = w; pieces = ps; indexes = range_with_len 0 (length w); watchers = m })
all_phase w ps m each can =
    phase w ps (range_with_len 0 (length w)) m each can (range_distinct 0 (length w))
    (λ i there. among i (passes_there (λ j. nat_lt j (length w)) (flat_map changes ps) i (changes_within w ps can) there))
    (λ i there. among i (passes_there (λ j. nat_lt j (length w)) (flat_map common ps) i (common_within w ps can) there))
  where
    among : (i : ℕ) → nat_lt i (length w) ≡ true → is_none_of (range_with_len 0 (length w)) i ≡ false
    among i passes = let n : ℕ = length w in let less : i < n = ltb-true i n passes in in_range 0 n i (omega arith) (omega (arith, less))

-- those that are listed are as well
pub listed_within : (n : ℕ) (at : Indexes) → All (λ i. i < n) (indexes_of n at) → All (λ i. i < n) (listed at)
listed_within n indexes.All within = λ k d less. absurd (omega (arith, less))
listed_within n (indexes.Listed at) within = within

-- ---- where they stand

pub all_words : (ws : List ℕ) → ws ≡ map (λ i. get_or ws i 0) (range_with_len 0 (length ws))
all_words ws = fill_by_all (λ i. get_or ws i 0) ws (length ws) 0 refl (λ k less. refl)

pub stands_there : (n i : ℕ) → is_none_of (range_with_len 0 n) i ≡ false → slice_get (range_with_len 0 n) i ≡ Some i
stands_there n i there =
    let less : i < n = let low : i < 0 + n = below_range 0 n i there in omega (arith, low) in
    let within : i < length (range_with_len 0 n) = subst (λ m. i < m) (sym (length-range_with_len 0 n)) less in
    slice_get-get_or (range_with_len 0 n) i 0 within ∙ ap Some (let same : 0 + i ≡ i = omega arith in get_or-range_with_len 0 n i 0 less ∙ same)

-- ---- at the end

pub one_of_all_put_back : (k n : ℕ) (before words shared : List ℕ) (word : ℕ) → k < n → get_elem? shared k ≡ some word → words ≡ replaced before (take k (range_with_len 0 n)) shared
    → set words k word ≡ replaced before (take (k + 1) (range_with_len 0 n)) shared
one_of_all_put_back k n before words shared word less found so_far =
    let within : k < length (range_with_len 0 n) = subst (λ m. k < m) (sym (length-range_with_len 0 n)) less in
    let same : k ≡ 0 + k = omega arith in
    ap (λ i. set words i word) (same ∙ sym (get_or-range_with_len 0 n k 0 less)) ∙ one_put_back k before words (range_with_len 0 n) shared word within found so_far

-- each index of a word is among them
pub is_there : (n i : ℕ) → i < n → is_none_of (range_with_len 0 n) i ≡ false
is_there n i less = in_range 0 n i (omega arith) (omega (arith, less))
