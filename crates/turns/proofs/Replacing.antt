-- Shared words are put back among all words.
use Rattle.std.proofs.Common.{◌≡◌, ◌≢◌, ℕ, zero, suc, ◌+◌, ◌<◌, ◌≤◌, Bool, true, false, ◌&&◌, not, List, [], ◌∷◌, length, map, set, get_or, take, Some, refl, ap, ◌∙◌, sym, subst, arith, zero-add, if◌then◌else◌}
use Rattle.std.specs.Prelude.{◌==◌, slice_get}
use Rattle.std.specs.Option.{option_and_then}
use Rattle.std.proofs.lemmas.Bool.{eqb-true, ne_eqb, eq-eqb, true≢false}
use Rattle.std.proofs.lemmas.List.{length-set, ext_get_or, get_or-set_same, get_or-set_other}
use mathlib.Core.Option.{some, some-ne-none, some-injective}
use lib.ListN.{get_elem?}
use Rattle.pieces.specs.Distinct.{is_none_of}
use Rattle.pieces.specs.Effects.{Effect, keeps, adds, writes, done, word_after, words_after}
use Rattle.pieces.proofs.AllSteps.{length_words, word_at}
use Rattle.turns.specs.Writers.{writers, adders, all_writers, all_adders}
use Rattle.turns.specs.Rules.{steps_in, word_in, words_in, IsOpening, index_of}
use Rattle.turns.specs.SharedWords.{replaced}
use Rattle.turns.specs.declared.view.Opening.{Opening}
use Rattle.turns.proofs.Insertions.{untouched, done_writers, done_adders}

-- ---- one word after another

pub length_replaced : (ws is new : List ℕ) → length (replaced ws is new) ≡ length ws
length_replaced ws [] new = refl
length_replaced ws (i ∷ is) [] = refl
length_replaced ws (i ∷ is) (x ∷ new) = length_replaced (set ws i x) is new ∙ length-set ws i x

-- one word more
pub replaced_more : (k : ℕ) (ws is new : List ℕ) → k < length is → k < length new → replaced ws (take (suc k) is) new ≡ set (replaced ws (take k is) new) (get_or is k 0) (get_or new k 0)
replaced_more k ws [] new less within = absurd (omega (arith, less))
replaced_more k ws (i ∷ is) [] less within = absurd (omega (arith, within))
replaced_more zero ws (i ∷ is) (x ∷ new) less within = refl
replaced_more (suc k) ws (i ∷ is) (x ∷ new) less within = replaced_more k (set ws i x) is new (omega (arith, less)) (omega (arith, within))

-- each word is as it should be, if those are that are not replaced
replaced_at : (f : ℕ → ℕ) (v is : List ℕ) → ((j : ℕ) → j < length v → is_none_of is j ≡ true → get_or v j 0 ≡ f j) → (j : ℕ) → j < length v → get_or (replaced v is (map f is)) j 0 ≡ f j
replaced_at f v [] others j less = others j less refl
replaced_at f v (i ∷ is) others j less =
    replaced_at f (set v i (f i)) is (λ k within none. by k (subst (λ n. k < n) (length-set v i (f i)) within) none (i == k) refl) j (subst (λ n. j < n) (sym (length-set v i (f i))) less)
  where
    by : (k : ℕ) → k < length v → is_none_of is k ≡ true → (t : Bool) → (i == k) ≡ t → get_or (set v i (f i)) k 0 ≡ f k
    by k within none true same = let e : i ≡ k = eqb-true i k same in subst (λ m. get_or (set v i (f i)) m 0 ≡ f m) e (get_or-set_same v i (f i) 0 (subst (λ m. m < length v) (sym e) within))
    by k within none false apart =
        get_or-set_other v i k (f i) 0 (λ is_i. true≢false (sym (eq-eqb i k (sym is_i)) ∙ apart)) ∙ others k within (ap (λ t. not t && is_none_of is k) apart ∙ none)

-- ---- words that no step is about

unwritten : (i : ℕ) (es : List Effect) → ((k : ℕ) (e : Effect) → slice_get es k ≡ Some e → index_of e ≢ i) → (writers i es ≡ 0) × (adders i es ≡ 0)
unwritten i [] apart = (refl, refl)
unwritten i (keeps j ∷ es) apart = let m = unwritten i es (λ k. apart (suc k)) in (zero-add (writers i es) ∙ m.0, zero-add (adders i es) ∙ m.1)
unwritten i (adds j bits ∷ es) apart =
    let m = unwritten i es (λ k. apart (suc k)) in
    (zero-add (writers i es) ∙ m.0, ap (λ t. (if t then 1 else 0) + adders i es) (ne_eqb j i (apart 0 (adds j bits) refl)) ∙ zero-add (adders i es) ∙ m.1)
unwritten i (writes j word ∷ es) apart =
    let m = unwritten i es (λ k. apart (suc k)) in
    (ap (λ t. (if t then 1 else 0) + writers i es) (ne_eqb j i (apart 0 (writes j word) refl)) ∙ zero-add (writers i es) ∙ m.0, zero-add (adders i es) ∙ m.1)

all_unwritten : (i : ℕ) (ess : List (List Effect)) → ((p k : ℕ) (es : List Effect) (e : Effect) → slice_get ess p ≡ Some es → slice_get es k ≡ Some e → index_of e ≢ i) → (all_writers i ess ≡ 0) × (all_adders i ess ≡ 0)
all_unwritten i [] apart = (refl, refl)
all_unwritten i (es ∷ ess) apart =
    let here = unwritten i es (λ k e at. apart 0 k es e refl at) in
    let rest = all_unwritten i ess (λ p. apart (suc p)) in
    let a : ℕ = writers i es in let b : ℕ = all_writers i ess in let c : ℕ = adders i es in let d : ℕ = all_adders i ess in
    let a0 : a ≡ 0 = here.0 in let b0 : b ≡ 0 = rest.0 in let c0 : c ≡ 0 = here.1 in let d0 : d ≡ 0 = rest.1 in
    (omega (arith, a0, b0), omega (arith, c0, d0))

-- where no word is shared, no step writes and none adds
pub not_shared : (o : Opening) → IsOpening o → (i : ℕ) → is_none_of o.indexes i ≡ true → (all_writers i (steps_in o) ≡ 0) × (all_adders i (steps_in o) ≡ 0)
not_shared o is i none =
    all_unwritten i (steps_in o)
    (λ p k es e of at same.
    true≢false (sym none ∙ ap (is_none_of o.indexes) (sym same) ∙ is.covers ((p, k) ∷ []) e (ap (option_and_then (λ fs. slice_get fs k)) of ∙ at)))

pub stays_same : (o : Opening) → IsOpening o → (counts : ℕ → ℕ) (i : ℕ) → is_none_of o.indexes i ≡ true → get_or o.words i 0 ≡ word_in o counts i
stays_same o is counts i none =
    let parts = not_shared o is i none in
    let w : ℕ = writers i (done counts (steps_in o)) in let all : ℕ = all_writers i (steps_in o) in let few : w ≤ all = done_writers i 0 counts (steps_in o) in let all0 : all ≡ 0 = parts.0 in
    let a : ℕ = adders i (done counts (steps_in o)) in let adding : ℕ = all_adders i (steps_in o) in let less : a ≤ adding = done_adders i 0 counts (steps_in o) in let adding0 : adding ≡ 0 = parts.1 in
    sym (untouched (get_or o.words i 0) i (done counts (steps_in o)) (omega (arith, few, all0)) (omega (arith, less, adding0)))

-- ---- all words

-- with the shared words put back, all words are those after the steps that were done
pub put_back_words : (o : Opening) → IsOpening o → (counts : ℕ → ℕ) (shared : List ℕ) → shared ≡ words_in o counts → replaced o.words o.indexes shared ≡ words_after o.words (done counts (steps_in o))
put_back_words o is counts shared same =
    let es : List Effect = done counts (steps_in o) in
    ap (replaced o.words o.indexes) same
    ∙ ext_get_or 0 (replaced o.words o.indexes (words_in o counts)) (words_after o.words es) (length_replaced o.words o.indexes (words_in o counts) ∙ sym (length_words 0 o.words es))
    (λ i less.
    let within : i < length o.words = subst (λ n. i < n) (length_replaced o.words o.indexes (words_in o counts)) less in
    replaced_at (word_in o counts) o.words o.indexes (λ j low none. stays_same o is counts j none) i within ∙ ap (λ k. word_after (get_or o.words i 0) k es) (sym (zero-add i)) ∙ sym (word_at 0 o.words es i within))

-- ---- of a table that was closed

pub found_there : (xs : List ℕ) (k x : ℕ) → get_elem? xs k ≡ some x → (k < length xs) × (get_or xs k 0 ≡ x)
found_there [] k x at = absurd (some-ne-none x (sym at))
found_there (y ∷ xs) zero x at = (omega arith, some-injective y x at)
found_there (y ∷ xs) (suc k) x at = let m = found_there xs k x at in (omega (arith, m.0), m.1)

pub one_put_back : (k : ℕ) (before words at shared : List ℕ) (word : ℕ) → k < length at → get_elem? shared k ≡ some word → words ≡ replaced before (take k at) shared
    → set words (get_or at k 0) word ≡ replaced before (take (k + 1) at) shared
one_put_back k before words at shared word less found so_far =
    let there = found_there shared k word found in
    let next : suc k ≡ k + 1 = omega arith in
    ap (λ ws. set ws (get_or at k 0) word) so_far ∙ ap (set (replaced before (take k at) shared) (get_or at k 0)) (sym there.1) ∙ sym (replaced_more k before at shared less there.0)
    ∙ ap (λ n. replaced before (take n at) shared) next
