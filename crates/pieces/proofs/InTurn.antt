-- Steps and pieces one after another.
use Rattle.std.proofs.Common.{◌≡◌, ℕ, zero, suc, ◌+◌, ◌<◌, Bool, true, false, ◌&&◌, not, List, [], ◌∷◌, ◌++◌, length, get_or, set, Option, Some, None, unwrap_or, bit_or, refl, ap, ◌∙◌, sym, subst, arith, if◌then◌else◌}
use Rattle.std.specs.Prelude.{◌==◌}
use Rattle.std.specs.List.{list_all}
use Rattle.std.specs.Int.Bits.{or_zero_r}
use Rattle.std.proofs.lemmas.Bool.{eq-eqb, eqb-true, ne_eqb}
use Rattle.std.proofs.lemmas.Grind.{flat_map-append}
use Rattle.pieces.specs.Distinct.{is_none_of, are_distinct}
use Rattle.pieces.specs.DistinctParts.{all_split}
use Rattle.pieces.specs.Effects.{Effect, keeps, adds, writes, gained, written, word_after, words_from, words_after, write_at, add_at, writes_at, adds_at}
use Rattle.pieces.proofs.AllSteps.{length_words}
use Rattle.pieces.proofs.InOrder.{or_assoc, gained_append}
use Rattle.pieces.proofs.Writers.{written_none}

-- ---- steps

both : (a b : Bool) → (a && b) ≡ true → (a ≡ true) × (b ≡ true)
both true true h = (refl, refl)
both true false h = absurd (cc)
both false b h = absurd (cc)

-- what stands at an index that some write is written by none of the others
written_here : (i word : ℕ) (es fs : List Effect) → written i es ≡ Some word → written i (es ++ fs) ≡ Some word
written_here i word [] fs is = absurd (cc)
written_here i word (keeps m ∷ es) fs is = written_here i word es fs is
written_here i word (adds m bits ∷ es) fs is = written_here i word es fs is
written_here i word (writes m x ∷ es) fs is = by (m == i) is (written_here i word es fs)
  where
    by : (t : Bool) → (if t then Some x else written i es) ≡ Some word → (written i es ≡ Some word → written i (es ++ fs) ≡ Some word) → (if t then Some x else written i (es ++ fs)) ≡ Some word
    by true is later = is
    by false is later = later is

written_later : (i : ℕ) (es fs : List Effect) → written i es ≡ None → written i (es ++ fs) ≡ written i fs
written_later i [] fs is = refl
written_later i (keeps m ∷ es) fs is = written_later i es fs is
written_later i (adds m bits ∷ es) fs is = written_later i es fs is
written_later i (writes m x ∷ es) fs is = by (m == i) is (written_later i es fs)
  where
    by : (t : Bool) → (if t then Some x else written i es) ≡ None → (written i es ≡ None → written i (es ++ fs) ≡ written i fs) → (if t then Some x else written i (es ++ fs)) ≡ written i fs
    by true is later = absurd (cc)
    by false is later = later is

pub gained_none : (i : ℕ) (es : List Effect) → is_none_of (adds_at es) i ≡ true → gained i es ≡ 0
gained_none i [] none = refl
gained_none i (keeps m ∷ es) none = gained_none i es none
gained_none i (adds m bits ∷ es) none = by (m == i) (both (not (m == i)) (is_none_of (adds_at es) i) none) (gained_none i es)
  where
    by : (t : Bool) → (not t ≡ true) × (is_none_of (adds_at es) i ≡ true) → (is_none_of (adds_at es) i ≡ true → gained i es ≡ 0) → bit_or (if t then bits else 0) (gained i es) ≡ 0
    by true h later = let never : not true ≡ true = h.0 in absurd (cc)
    by false h later = later h.1
gained_none i (writes m x ∷ es) none = gained_none i es none

-- a number of the first list is none of the second
apart_later : (is js : List ℕ) (i : ℕ) → are_distinct (is ++ js) ≡ true → is_none_of is i ≡ false → is_none_of js i ≡ true
apart_later [] js i once hit = absurd (cc)
apart_later (k ∷ is) js i once hit =
    let parts = both (is_none_of (is ++ js) k) (are_distinct (is ++ js)) once in
    by (k == i) refl hit (all_split (λ j. not (j == k)) is js parts.0).1 (apart_later is js i parts.1)
  where
    by : (t : Bool) → (k == i) ≡ t → (not t && is_none_of is i) ≡ false → is_none_of js k ≡ true → (is_none_of is i ≡ false → is_none_of js i ≡ true) → is_none_of js i ≡ true
    by true is hit here later = subst (λ m. is_none_of js m ≡ true) (eqb-true k i is) here
    by false is hit here later = later hit

-- nor one of those that are none of the first
apart_of_others : (is js : List ℕ) (i : ℕ) → list_all (is_none_of is) js ≡ true → is_none_of is i ≡ false → is_none_of js i ≡ true
apart_of_others is [] i apart hit = refl
apart_of_others is (j ∷ js) i apart hit =
    let parts = both (is_none_of is j) (list_all (is_none_of is) js) apart in
    by (j == i) refl parts.0 (apart_of_others is js i parts.1 hit)
  where
    by : (t : Bool) → (j == i) ≡ t → is_none_of is j ≡ true → is_none_of js i ≡ true → (not t && is_none_of js i) ≡ true
    by true hits none later = let same : j ≡ i = eqb-true j i hits in let never : is_none_of is i ≡ true = subst (λ m. is_none_of is m ≡ true) same none in absurd (cc)
    by false hits none later = later

-- where each number of a list passes a test that is stronger
pub all_weaker : {A : Type 0} (f g : A → Bool) (xs : List A) → ((x : A) → f x ≡ true → g x ≡ true) → list_all f xs ≡ true → list_all g xs ≡ true
all_weaker f g [] weaker all = refl
all_weaker f g (x ∷ xs) weaker all = let parts = both (f x) (list_all f xs) all in rw (weaker x parts.0) (all_weaker f g xs weaker parts.1)

-- a word after some steps and then others
module _ (i : ℕ) (es fs : List Effect) where
  unwritten_first : (x : ℕ) → written i es ≡ None → word_after x i (es ++ fs) ≡ word_after (word_after x i es) i fs
  unwritten_first x none =
      ap (λ o. unwrap_or o (bit_or x (gained i (es ++ fs)))) (written_later i es fs none)
      ∙ ap (unwrap_or (written i fs)) (ap (bit_or x) (gained_append i es fs) ∙ sym (or_assoc x (gained i es) (gained i fs)))
      ∙ ap (λ o. unwrap_or (written i fs) (bit_or (unwrap_or o (bit_or x (gained i es))) (gained i fs))) (sym none)

  untouched_later : (x word : ℕ) → written i es ≡ Some word → written i fs ≡ None → gained i fs ≡ 0 → word_after x i (es ++ fs) ≡ word_after (word_after x i es) i fs
  untouched_later x word is none nothing =
      ap (λ o. unwrap_or o (bit_or x (gained i (es ++ fs)))) (written_here i word es fs is)
      ∙ sym (ap (λ o. unwrap_or o (bit_or (word_after x i es) (gained i fs))) none ∙ ap (bit_or (word_after x i es)) nothing ∙ or_zero_r (word_after x i es) ∙ ap (λ o. unwrap_or o (bit_or x (gained i es))) is)

  module _ (once : are_distinct (writes_at (es ++ fs)) ≡ true) (apart : list_all (is_none_of (writes_at (es ++ fs))) (adds_at (es ++ fs)) ≡ true) where
    apart_of_first : (js : List ℕ) → list_all (is_none_of (writes_at (es ++ fs))) js ≡ true → list_all (is_none_of (writes_at es)) js ≡ true
    apart_of_first js all =
        all_weaker (is_none_of (writes_at (es ++ fs))) (is_none_of (writes_at es)) js (λ j none. (all_split (λ k. not (k == j)) (writes_at es) (writes_at fs) (ap (λ ks. is_none_of ks j) (sym (flat_map-append write_at es fs)) ∙ none)).0) all

    word_in_turn : (x : ℕ) → word_after x i (es ++ fs) ≡ word_after (word_after x i es) i fs
    word_in_turn x = by (is_none_of (writes_at es) i) refl
      where
        of_written : (o : Option ℕ) → written i es ≡ o → is_none_of (writes_at fs) i ≡ true → is_none_of (adds_at fs) i ≡ true → word_after x i (es ++ fs) ≡ word_after (word_after x i es) i fs
        of_written None is none nothing = unwritten_first x is
        of_written (Some word) is none nothing = untouched_later x word is (written_none fs i none) (gained_none i fs nothing)

        by : (t : Bool) → is_none_of (writes_at es) i ≡ t → word_after x i (es ++ fs) ≡ word_after (word_after x i es) i fs
        by true none = unwritten_first x (written_none es i none)
        by false hit =
            of_written (written i es) refl (apart_later (writes_at es) (writes_at fs) i (ap are_distinct (sym (flat_map-append write_at es fs)) ∙ once) hit)
            (apart_of_others (writes_at es) (adds_at fs) i
            (all_split (is_none_of (writes_at es)) (adds_at es) (adds_at fs) (ap (list_all (is_none_of (writes_at es))) (sym (flat_map-append add_at es fs)) ∙ apart_of_first (adds_at (es ++ fs)) apart)).1 hit)

pub steps_in_turn : (j : ℕ) (w : List ℕ) (es fs : List Effect) → are_distinct (writes_at (es ++ fs)) ≡ true → list_all (is_none_of (writes_at (es ++ fs))) (adds_at (es ++ fs)) ≡ true
    → words_from j w (es ++ fs) ≡ words_from j (words_from j w es) fs
steps_in_turn j [] es fs once apart = refl
steps_in_turn j (x ∷ w) es fs once apart =
    ap (λ y. y ∷ words_from (j + 1) w (es ++ fs)) (word_in_turn j es fs once apart x) ∙ ap (λ ys. word_after (word_after x j es) j fs ∷ ys) (steps_in_turn (j + 1) w es fs once apart)

-- ---- one step more

-- the index of a step
abbrev pub index_of : Effect → ℕ
index_of (keeps i) = i
index_of (adds i bits) = i
index_of (writes i word) = i

-- a step does nothing elsewhere
elsewhere : (i : ℕ) (e : Effect) → (index_of e == i) ≡ false → (written i (e ∷ []) ≡ None) × (gained i (e ∷ []) ≡ 0)
elsewhere i (keeps j) differ = (refl, refl)
elsewhere i (adds j bits) differ = (refl, rw differ refl)
elsewhere i (writes j x) differ = (rw differ refl, refl)

word_one_more : (i : ℕ) (es : List Effect) (e : Effect) (x : ℕ) → is_none_of (writes_at es) (index_of e) ≡ true → word_after x i (es ++ e ∷ []) ≡ word_after (word_after x i es) i (e ∷ [])
word_one_more i es e x none = by (index_of e == i) refl
  where
    other : (o : Option ℕ) → written i es ≡ o → (written i (e ∷ []) ≡ None) × (gained i (e ∷ []) ≡ 0) → word_after x i (es ++ e ∷ []) ≡ word_after (word_after x i es) i (e ∷ [])
    other None is away = unwritten_first i es (e ∷ []) x is
    other (Some word) is away = untouched_later i es (e ∷ []) x word is away.0 away.1

    by : (t : Bool) → (index_of e == i) ≡ t → word_after x i (es ++ e ∷ []) ≡ word_after (word_after x i es) i (e ∷ [])
    by true same = unwritten_first i es (e ∷ []) x (written_none es i (ap (is_none_of (writes_at es)) (sym (eqb-true (index_of e) i same)) ∙ none))
    by false differ = other (written i es) refl (elsewhere i e differ)

pub one_step_more : (j : ℕ) (w : List ℕ) (es : List Effect) (e : Effect) → is_none_of (writes_at es) (index_of e) ≡ true → words_from j w (es ++ e ∷ []) ≡ words_from j (words_from j w es) (e ∷ [])
one_step_more j [] es e none = refl
one_step_more j (x ∷ w) es e none =
    ap (λ y. y ∷ words_from (j + 1) w (es ++ e ∷ [])) (word_one_more j es e x none) ∙ ap (λ ys. word_after (word_after x j es) j (e ∷ []) ∷ ys) (one_step_more (j + 1) w es e none)

-- a word that is set
differ_above : (i j : ℕ) → i < j → (i == j) ≡ false
differ_above i j above = ne_eqb i j (λ same. omega (arith, above, same))

-- nothing changes behind the index of a step
behind : (j : ℕ) (w : List ℕ) (e : Effect) → index_of e < j → words_from j w (e ∷ []) ≡ w
behind j [] e above = refl
behind j (x ∷ w) e above =
    let away = elsewhere j e (differ_above (index_of e) j above) in
    rw (away.0, away.1, or_zero_r x) (ap (λ ys. x ∷ ys) (behind (j + 1) w e (omega (arith, above))))

pub write_from : (j : ℕ) (w : List ℕ) (i x : ℕ) → i < length w → words_from j w (writes (j + i) x ∷ []) ≡ set w i x
write_from j [] i x within = absurd (omega (arith, within))
write_from j (y ∷ w) zero x within =
    let here : ((j + 0) == j) ≡ true = eq-eqb (j + 0) j (omega arith) in
    rw here (ap (λ ys. x ∷ ys) (behind (j + 1) w (writes (j + 0) x) (omega arith)))
write_from j (y ∷ w) (suc i) x within =
    let away = elsewhere j (writes (j + suc i) x) (ne_eqb (j + suc i) j (λ same. omega (arith, same))) in
    let next : j + suc i ≡ (j + 1) + i = omega arith in
    rw (away.0, or_zero_r y) (ap (λ ys. y ∷ ys) (ap (λ k. words_from (j + 1) w (writes k x ∷ [])) next ∙ write_from (j + 1) w i x (omega (arith, within))))

pub add_from : (j : ℕ) (w : List ℕ) (i bits : ℕ) → i < length w → words_from j w (adds (j + i) bits ∷ []) ≡ set w i (bit_or (get_or w i 0) bits)
add_from j [] i bits within = absurd (omega (arith, within))
add_from j (y ∷ w) zero bits within =
    let here : ((j + 0) == j) ≡ true = eq-eqb (j + 0) j (omega arith) in
    rw (here, or_zero_r bits) (ap (λ ys. bit_or y bits ∷ ys) (behind (j + 1) w (adds (j + 0) bits) (omega arith)))
add_from j (y ∷ w) (suc i) bits within =
    let away = elsewhere j (adds (j + suc i) bits) (ne_eqb (j + suc i) j (λ same. omega (arith, same))) in
    let next : j + suc i ≡ (j + 1) + i = omega arith in
    rw (away.1, or_zero_r y) (ap (λ ys. y ∷ ys) (ap (λ k. words_from (j + 1) w (adds k bits ∷ [])) next ∙ add_from (j + 1) w i bits (omega (arith, within))))

-- after steps none of which wrote there
pub write_more : (w : List ℕ) (es : List Effect) (i x : ℕ) → is_none_of (writes_at es) i ≡ true → i < length w → set (words_after w es) i x ≡ words_after w (es ++ writes i x ∷ [])
write_more w es i x none within =
    let l = length_words 0 w es in
    let there : i < length (words_after w es) = omega (arith, within, l) in
    let same : 0 + i ≡ i = omega arith in
    sym (one_step_more 0 w es (writes i x) none ∙ ap (λ k. words_after (words_after w es) (writes k x ∷ [])) (sym same) ∙ write_from 0 (words_after w es) i x there)

pub add_more : (w : List ℕ) (es : List Effect) (i bits : ℕ) → is_none_of (writes_at es) i ≡ true → i < length w
    → set (words_after w es) i (bit_or (get_or (words_after w es) i 0) bits) ≡ words_after w (es ++ adds i bits ∷ [])
add_more w es i bits none within =
    let l = length_words 0 w es in
    let there : i < length (words_after w es) = omega (arith, within, l) in
    let same : 0 + i ≡ i = omega arith in
    sym (one_step_more 0 w es (adds i bits) none ∙ ap (λ k. words_after (words_after w es) (adds k bits ∷ [])) (sym same) ∙ add_from 0 (words_after w es) i bits there)
