-- The rule at opening and at the end.
use Rattle.std.proofs.Common.{◌≡◌, ◌≢◌, ℕ, zero, suc, ◌+◌, ◌<◌, ◌≤◌, Bool, true, false, List, [], ◌∷◌, length, map, get_or, refl, ap, ◌∙◌, sym, subst, arith, zero-add, if◌then◌else◌}
use Rattle.std.specs.Prelude.{◌==◌}
use Rattle.std.specs.List.{All, range_with_len}
use Rattle.std.specs.Int.Bits.{or_zero_r}
use Rattle.std.proofs.lemmas.Bool.{eqb-true, eq-eqb, ne_eqb, true≢false}
use Rattle.std.proofs.lemmas.List.{length-map}
use mathlib.Core.Option.{some, some-ne-none, some-injective}
use lib.ListN.{get_elem?}
use Rattle.atomic_table.specs.Table.{opening}
use Rattle.pieces.specs.Effects.{Effect, done_from, word_after}
use Rattle.pieces.specs.Steps.{effects}
use Rattle.turns.specs.Views.{count_in, names_in, counted, none_done, first_view}
use Rattle.turns.specs.Rules.{steps_in, word_in, words_in, Holds}
use Rattle.turns.specs.Tables.{Ruled}
use Rattle.turns.specs.declared.view.Opening.{Opening}
use Rattle.turns.specs.declared.view.View.{View}
use Rattle.turns.proofs.Insertions.{same_done}
use Rattle.turns.proofs.Sums.{only_here}

-- ---- at opening

-- of pieces from one on, none has a step that was done
none_counted : (p q n : ℕ) → count_in p (map (λ k. (k, 0)) (range_with_len q n)) ≡ 0
none_counted p q zero = refl
none_counted p q (suc n) = ap (λ m. m + count_in p (map (λ k. (k, 0)) (range_with_len (q + 1) n))) (by (q == p)) ∙ zero-add _ ∙ none_counted p (q + 1) n
  where
    by : (t : Bool) → ◌≡◌ {A = ℕ} (if t then 0 else 0) 0
    by true = refl
    by false = refl

-- those before are not named, and each of these once
none_before : (p q n : ℕ) → p < q → names_in p (map (λ k. (k, 0)) (range_with_len q n)) ≡ 0
none_before p q zero less = refl
none_before p q (suc n) less =
    ap (λ t. (if t then 1 else 0) + names_in p (map (λ k. (k, 0)) (range_with_len (q + 1) n))) (ne_eqb q p (λ is. omega (arith, less, is))) ∙ zero-add _ ∙ none_before p (q + 1) n (omega (arith, less))

named_once : (p q n : ℕ) → names_in p (map (λ k. (k, 0)) (range_with_len q n)) ≤ 1
named_once p q zero = omega arith
named_once p q (suc n) = by (q == p) (λ h. let e : q ≡ p = eqb-true q p h in none_before p (q + 1) n (omega arith)) (named_once p (q + 1) n)
  where
    by : (t : Bool) → (t ≡ true → names_in p (map (λ k. (k, 0)) (range_with_len (q + 1) n)) ≡ 0) → names_in p (map (λ k. (k, 0)) (range_with_len (q + 1) n)) ≤ 1
        → (if t then 1 else 0) + names_in p (map (λ k. (k, 0)) (range_with_len (q + 1) n)) ≤ 1
    by true none later = let m : ℕ = names_in p (map (λ k. (k, 0)) (range_with_len (q + 1) n)) in let m0 : m ≡ 0 = none refl in omega arith
    by false none later = let m : ℕ = names_in p (map (λ k. (k, 0)) (range_with_len (q + 1) n)) in let m' : m ≤ 1 = later in omega arith

named_among : (p q n : ℕ) → q ≤ p → p < q + n → names_in p (map (λ k. (k, 0)) (range_with_len q n)) ≡ 1
named_among p q zero low high = absurd (omega (arith, low, high))
named_among p q (suc n) low high = by (q == p) refl (named_among p (q + 1) n)
  where
    by : (t : Bool) → (q == p) ≡ t → (q + 1 ≤ p → p < q + 1 + n → names_in p (map (λ k. (k, 0)) (range_with_len (q + 1) n)) ≡ 1) → (if t then 1 else 0) + names_in p (map (λ k. (k, 0)) (range_with_len (q + 1) n)) ≡ 1
    by true is later =
        let m : ℕ = names_in p (map (λ k. (k, 0)) (range_with_len (q + 1) n)) in
        let e : q ≡ p = eqb-true q p is in
        let none : m ≡ 0 = none_before p (q + 1) n (omega (arith, e)) in omega (arith, none)
    by false is later =
        let m : ℕ = names_in p (map (λ k. (k, 0)) (range_with_len (q + 1) n)) in
        let apart : q ≢ p = λ same. true≢false (sym (eq-eqb q p same) ∙ is) in
        let one : m ≡ 1 = later (omega (arith, low, apart)) (omega (arith, high)) in omega (arith, one)

none_done_yet : (q : ℕ) (ess : List (List Effect)) → done_from q (λ p. 0) ess ≡ []
none_done_yet q [] = refl
none_done_yet q (es ∷ ess) = none_done_yet (q + 1) ess

-- with no step done the shared words are those at opening
untouched_words : (o : Opening) (at : List ℕ) → map (word_in o (λ p. 0)) at ≡ map (λ i. get_or o.words i 0) at
untouched_words o [] = refl
untouched_words o (i ∷ at) =
    ap (λ x. x ∷ map (word_in o (λ p. 0)) at) (ap (word_after (get_or o.words i 0) i) (none_done_yet 0 (steps_in o)) ∙ or_zero_r (get_or o.words i 0)) ∙ ap (λ xs. get_or o.words i 0 ∷ xs) (untouched_words o at)

pub opens : (o : Opening) → Ruled o (opening {S = Unit {0}} (map (λ i. get_or o.words i 0) o.indexes) [] (first_view o))
opens o =
    let counts : (p : ℕ) → counted (first_view o ∷ []) p ≡ 0 = λ p. let a : ℕ = count_in p (none_done (length o.pieces)) in let a0 : a ≡ 0 = none_counted p 0 (length o.pieces) in omega arith in
    record {
      words_are = sym (untouched_words o o.indexes) ∙ ap (words_in o) (λ i p. sym (counts p) i);
      once = λ p. let a : ℕ = names_in p (none_done (length o.pieces)) in let a1 : a ≤ 1 = named_once p 0 (length o.pieces) in omega arith;
      each = λ p less. let a : ℕ = names_in p (none_done (length o.pieces)) in let a1 : a ≡ 1 = named_among p 0 (length o.pieces) (omega arith) (omega (arith, less)) in let z : a + 0 ≡ 1 = omega (arith, a1) in z;
      same = same;
      noted = noted;
    }
  where
    same : (k : ℕ) (v : View) → get_elem? (first_view o ∷ []) k ≡ some v → v.live ≡ true → v.opening ≡ o
    same zero v at live = ap (λ (x : View). x.opening) (sym (some-injective (first_view o) v at))
    same (suc k) v at live = absurd (some-ne-none v (sym at))

    noted : (k : ℕ) (v : View) → get_elem? (first_view o ∷ []) k ≡ some v → All (λ n. n.1 ≤ counted (first_view o ∷ []) n.0) v.notes
    noted zero v at = subst (λ (x : View). All (λ n. n.1 ≤ counted (first_view o ∷ []) n.0) x.notes) (some-injective (first_view o) v at) (λ k d less. absurd (omega (arith, less)))
    noted (suc k) v at = absurd (some-ne-none v (sym at))

-- ---- at the end

-- counts that are the same for all pieces make the same words
words_of_counts : (o : Opening) (counts more : ℕ → ℕ) → ((p : ℕ) → p < length o.pieces → more p ≡ counts p) → words_in o more ≡ words_in o counts
words_of_counts o counts more same =
    ap (λ es. map (λ i. word_after (get_or o.words i 0) i es) o.indexes)
    (same_done 0 counts more (steps_in o) (λ p from less. same p (let n : ℕ = length (steps_in o) in let m : ℕ = length o.pieces in let e : n ≡ m = length-map o.pieces (effects o.words) in omega (arith, less, e))))

-- a seat that has all pieces knows how many steps of each were done
pub closes : (o : Opening) (words : List ℕ) (vs : List View) (k : ℕ) (v : View) → Holds o words vs → get_elem? vs k ≡ some v → ((p : ℕ) → p < length o.pieces → 0 < names_in p v.counts)
    → words ≡ words_in o (λ p. count_in p v.counts)
closes o words vs k v h at names = h.words_are ∙ words_of_counts o (λ p. count_in p v.counts) (counted vs) (λ p less. only_here p vs k v at (h.once p) (names p less))
