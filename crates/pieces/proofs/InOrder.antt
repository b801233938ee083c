-- Accesses do to words, in any order of steps, what they do one after another.
use Rattle.std.proofs.Common.{◌≡◌, ◌≢◌, ℕ, ◌+◌, ◌<◌, ◌≤◌, ◌⊎◌, inl, inr, Bool, true, false, List, [], ◌∷◌, ◌++◌, length, map, get_or, Option, Some, None, option_map, bit_or, refl, ap, ◌∙◌, sym, subst, arith, if◌then◌else◌, zero-add}
use Rattle.std.specs.Prelude.{◌==◌}
use Rattle.std.specs.List.{flat_map, AllPass}
use Rattle.std.specs.Option.{option_map_or}
use Rattle.std.specs.Int.Bits.{or_zero_l, or_zero_r}
use Rattle.std.proofs.lemmas.Bool.{cases_lt, eqb-true, eq-eqb}
use Rattle.std.proofs.lemmas.Grind.{flat_map-append}
use Rattle.std.proofs.lemmas.List.{append-nil, map-append, get_or_past, get_or_default}
use Rattle.std.proofs.lemmas.Nat.Bits.{same_from_bits, bit_at_or}
use Rattle.fpage.specs.Rights.{has, marks}
use Rattle.fpage.specs.declared.rights.Access.{Access}
use Rattle.space.specs.declared.place.Entry.{Entry}
use Rattle.space.specs.Word.{is_pack, entry_of, marked}
use Rattle.space.proofs.Words.{pack_gains_status}
use Rattle.pieces.specs.Distinct.{is_none_of}
use Rattle.pieces.specs.Effects.{Effect, keeps, adds, gained, bits_at, word_after, words_from, words_after, writes_at, write_at}
use Rattle.pieces.specs.Steps.{see, mark, effect, effects, status_bits, may_access, access_steps}
use Rattle.pieces.specs.Applied.{worked}
use Rattle.pieces.specs.Laws.{accessed, accessed_in_order, answers_in_order}
use Rattle.pieces.specs.declared.touch.WordAccess.{WordAccess}
use Rattle.pieces.specs.declared.piece.Piece.TheVariants as piece
use Rattle.pieces.proofs.AllSteps.{length_words, word_at, words_none, worked_all}
use Rattle.pieces.proofs.Writers.{no_writer, touches_write}

-- ---- bits

pub or_assoc : (a b c : ℕ) → bit_or (bit_or a b) c ≡ bit_or a (bit_or b c)
or_assoc a b c =
    same_from_bits (bit_or (bit_or a b) c) (bit_or a (bit_or b c))
    (λ i. let l = bit_at_or (bit_or a b) c i in let m = bit_at_or a b i in let n = bit_at_or a (bit_or b c) i in let o = bit_at_or b c i in omega arith)

pub gained_append : (i : ℕ) (es fs : List Effect) → gained i (es ++ fs) ≡ bit_or (gained i es) (gained i fs)
gained_append i [] fs = sym (or_zero_l (gained i fs))
gained_append i (e ∷ es) fs = ap (bit_or (bits_at i e)) (gained_append i es fs) ∙ sym (or_assoc (bits_at i e) (gained i es) (gained i fs))

-- steps that add bits alone, some and then others
added_word : (word i : ℕ) (es : List Effect) → writes_at es ≡ [] → word_after word i es ≡ bit_or word (gained i es)
added_word word i es none = no_writer es i word (ap (λ js. is_none_of js i) none)

added_twice : (j : ℕ) (w : List ℕ) (es fs : List Effect) → writes_at es ≡ [] → writes_at fs ≡ [] → words_from j w (es ++ fs) ≡ words_from j (words_from j w es) fs
added_twice j [] es fs none none' = refl
added_twice j (x ∷ w) es fs none none' =
    ap (λ y. y ∷ words_from (j + 1) w (es ++ fs))
    (added_word x j (es ++ fs) (flat_map-append write_at es fs ∙ ap (λ js. js ++ writes_at fs) none ∙ none') ∙ ap (bit_or x) (gained_append j es fs) ∙ sym (or_assoc x (gained j es) (gained j fs))
    ∙ ap (λ y. bit_or y (gained j fs)) (sym (added_word x j es none)) ∙ sym (added_word (word_after x j es) j fs none'))
    ∙ ap (λ ys. word_after (word_after x j es) j fs ∷ ys) (added_twice (j + 1) w es fs none none')

-- ---- one access

-- what it does to its word, by whether it may be made
abbrev pub one : Bool → WordAccess → List Effect
one b t = if b then keeps t.index ∷ adds t.index (status_bits (marks t.access)) ∷ [] else keeps t.index ∷ []

one_is : (w : List ℕ) (t : WordAccess) → map (effect w) (access_steps w t) ≡ one (may_access w t) t
one_is w t = by (may_access w t)
  where
    by : (b : Bool) → map (effect w) (if b then see t.index t.access ∷ mark t.index t.access ∷ [] else see t.index t.access ∷ []) ≡ one b t
    by true = refl
    by false = refl

more_is : (w : List ℕ) (t : WordAccess) (ts : List WordAccess) → effects w (piece.Touch (t ∷ ts)) ≡ one (may_access w t) t ++ effects w (piece.Touch ts)
more_is w t ts = map-append (effect w) (access_steps w t) (flat_map (access_steps w) ts) ∙ ap (λ es. es ++ effects w (piece.Touch ts)) (one_is w t)

one_alone : (w : List ℕ) (t : WordAccess) → effects w (piece.Touch (t ∷ [])) ≡ one (may_access w t) t
one_alone w t = more_is w t [] ∙ append-nil (one (may_access w t) t)

accessed_is : (w : List ℕ) (t : WordAccess) → accessed w t ≡ words_after w (one (may_access w t) t)
accessed_is w t = worked_all w (piece.Touch (t ∷ []) ∷ []) ∙ ap (words_after w) (append-nil (effects w (piece.Touch (t ∷ []))) ∙ one_alone w t)

-- the word at an index after an access
pub accessed_word : (w : List ℕ) (t : WordAccess) (i : ℕ) → i < length w → get_or (accessed w t) i 0 ≡ word_after (get_or w i 0) i (one (may_access w t) t)
accessed_word w t i within =
    ap (λ v. get_or v i 0) (accessed_is w t) ∙ word_at 0 w (one (may_access w t) t) i within ∙ ap (λ k. word_after (get_or w i 0) k (one (may_access w t) t)) (zero-add i)

-- at another index it stays
pub accessed_elsewhere : (word i : ℕ) (b : Bool) (t : WordAccess) → (t.index == i) ≡ false → word_after word i (one b t) ≡ word
accessed_elsewhere word i false t apart = or_zero_r word
accessed_elsewhere word i true t apart = by (t.index == i) apart
  where
    by : (s : Bool) → s ≡ false → bit_or word (bit_or 0 (bit_or (if s then status_bits (marks t.access) else 0) 0)) ≡ word
    by false is = or_zero_r word
    by true is = absurd (cc is)

-- where the access may not be made too
pub faulted_word : (word i : ℕ) (t : WordAccess) → word_after word i (one false t) ≡ word
faulted_word word i t = or_zero_r word

-- where it may, the page gains its status
pub made_word : (word : ℕ) (t : WordAccess) → is_pack word ≡ true → word ≢ 0 → entry_of (word_after word t.index (one true t)) ≡ option_map (λ e. marked e (marks t.access)) (entry_of word)
made_word word t pack some = by (t.index == t.index) (eq-eqb t.index t.index refl)
  where
    by : (s : Bool) → s ≡ true → entry_of (bit_or word (bit_or 0 (bit_or (if s then status_bits (marks t.access) else 0) 0))) ≡ option_map (λ e. marked e (marks t.access)) (entry_of word)
    by true is = rw (or_zero_l, or_zero_r) (pack_gains_status word (marks t.access) pack some).2
    by false is = absurd (cc is)

-- words that permit the same accesses have the same effects
same_effects : (w v : List ℕ) → ((t : WordAccess) → may_access v t ≡ may_access w t) → (ts : List WordAccess) → effects v (piece.Touch ts) ≡ effects w (piece.Touch ts)
same_effects w v same [] = refl
same_effects w v same (t ∷ ts) =
    more_is v t ts ∙ ap (λ b. one b t ++ effects v (piece.Touch ts)) (same t) ∙ ap (λ es. one (may_access w t) t ++ es) (same_effects w v same ts) ∙ sym (more_is w t ts)

-- a word with more status is that of a page with the same rights
record KeepsRights (word after : ℕ) : Type 0 where
  packed : is_pack after ≡ true
  rights : (a : Access) → option_map_or (λ e. has e.rights a) (entry_of after) false ≡ option_map_or (λ e. has e.rights a) (entry_of word) false

same_word : (word after : ℕ) → is_pack word ≡ true → after ≡ word → KeepsRights word after
same_word word after pack same = record { packed = ap is_pack same ∙ pack; rights = λ a. ap (λ x. option_map_or (λ e. has e.rights a) (entry_of x) false) same }

with_marks : (word : ℕ) (b : Access) → is_pack word ≡ true → word ≢ 0 → KeepsRights word (bit_or word (status_bits (marks b)))
with_marks word b pack some =
    let gains = pack_gains_status word (marks b) pack some in
    record { packed = gains.0; rights = λ a. ap (λ o. option_map_or (λ e. has e.rights a) o false) gains.2 ∙ by a (entry_of word) }
  where
    by : (a : Access) (o : Option Entry) → option_map_or (λ e. has e.rights a) (option_map (λ e. marked e (marks b)) o) false ≡ option_map_or (λ e. has e.rights a) o false
    by a None = refl
    by a (Some e) = refl

-- a page that is held has a word that is not 0
pub held_word : (word : ℕ) (a : Access) → option_map_or (λ e. has e.rights a) (entry_of word) false ≡ true → word ≢ 0
held_word word a may zeroed = let gone : option_map_or (λ e. has e.rights a) (entry_of 0) false ≡ true = subst (λ x. option_map_or (λ e. has e.rights a) (entry_of x) false ≡ true) zeroed may in cc

one_word : (word : ℕ) (t : WordAccess) (i : ℕ) (b : Bool) → is_pack word ≡ true → (b ≡ true → t.index ≡ i → word ≢ 0) → KeepsRights word (word_after word i (one b t))
one_word word t i false pack some = same_word word _ pack (or_zero_r word)
one_word word t i true pack some = by (t.index == i) refl
  where
    by : (s : Bool) → (t.index == i) ≡ s → KeepsRights word (bit_or word (bit_or 0 (bit_or (if s then status_bits (marks t.access) else 0) 0)))
    by true is = rw (or_zero_l, or_zero_r) (with_marks word t.access pack (some refl (eqb-true t.index i is)))
    by false is = same_word word _ pack (or_zero_r word)

-- every word after an access
each_word : (w : List ℕ) → AllPass is_pack w → (t : WordAccess) (i : ℕ) → i < length w → KeepsRights (get_or w i 0) (get_or (accessed w t) i 0)
each_word w packs t i within =
    subst (λ x. KeepsRights (get_or w i 0) x) (sym (ap (λ v. get_or v i 0) (accessed_is w t) ∙ word_at 0 w (one (may_access w t) t) i within ∙ ap (λ k. word_after (get_or w i 0) k (one (may_access w t) t)) (zero-add i)))
    (one_word (get_or w i 0) t i (may_access w t) (packs i 0 within) (λ may same. held_word (get_or w i 0) t.access (ap (λ k. option_map_or (λ e. has e.rights t.access) (entry_of (get_or w k 0)) false) (sym same) ∙ may)))

pub accessed_length : (w : List ℕ) (t : WordAccess) → length (accessed w t) ≡ length w
accessed_length w t = ap length (accessed_is w t) ∙ length_words 0 w (one (may_access w t) t)

pub packs_after : (w : List ℕ) → AllPass is_pack w → (t : WordAccess) → AllPass is_pack (accessed w t)
packs_after w packs t k d less =
    let l = accessed_length w t in
    let within : k < length w = omega arith in
    subst (λ x. is_pack x ≡ true) (get_or_default (accessed w t) k 0 d less) (each_word w packs t k within).packed

same_access : (w : List ℕ) → AllPass is_pack w → (t u : WordAccess) → may_access (accessed w t) u ≡ may_access w u
same_access w packs t u = by (cases_lt u.index (length w))
  where
    by : (u.index < length w) ⊎ (length w ≤ u.index) → may_access (accessed w t) u ≡ may_access w u
    by (inl within) = (each_word w packs t u.index within).rights u.access
    by (inr past) =
        let l = accessed_length w t in
        let after : length (accessed w t) ≤ u.index = omega arith in
        ap (λ x. option_map_or (λ e. has e.rights u.access) (entry_of x) false) (get_or_past (accessed w t) u.index 0 after ∙ sym (get_or_past w u.index 0 past))

-- ---- all of them

none_written : (w : List ℕ) (ts : List WordAccess) → writes_at (effects w (piece.Touch ts)) ≡ []
none_written w ts = touches_write w ts

touch_words : (w : List ℕ) (ts : List WordAccess) → worked w (piece.Touch ts ∷ []) ≡ words_after w (effects w (piece.Touch ts))
touch_words w ts = worked_all w (piece.Touch ts ∷ []) ∙ ap (words_after w) (append-nil (effects w (piece.Touch ts)))

pub words_in_order : (w : List ℕ) → AllPass is_pack w → (ts : List WordAccess) → worked w (piece.Touch ts ∷ []) ≡ accessed_in_order w ts
words_in_order w packs [] = touch_words w [] ∙ words_none 0 w
words_in_order w packs (t ∷ ts) =
    let v = accessed w t in
    touch_words w (t ∷ ts) ∙ ap (words_after w) (more_is w t ts)
    ∙ added_twice 0 w (one (may_access w t) t) (effects w (piece.Touch ts)) (sym (ap writes_at (one_alone w t)) ∙ none_written w (t ∷ [])) (none_written w ts)
    ∙ ap (λ x. words_after x (effects w (piece.Touch ts))) (sym (accessed_is w t)) ∙ ap (words_after v) (sym (same_effects w v (same_access w packs t) ts)) ∙ sym (touch_words v ts)
    ∙ words_in_order v (packs_after w packs t) ts

same_answers : (w v : List ℕ) → ((t : WordAccess) → may_access v t ≡ may_access w t) → (ts : List WordAccess) → map (may_access v) ts ≡ map (may_access w) ts
same_answers w v same [] = refl
same_answers w v same (t ∷ ts) = ap (λ b. b ∷ map (may_access v) ts) (same t) ∙ ap (λ bs. may_access w t ∷ bs) (same_answers w v same ts)

pub answers_one_by_one : (w : List ℕ) → AllPass is_pack w → (ts : List WordAccess) → map (may_access w) ts ≡ answers_in_order w ts
answers_one_by_one w packs [] = refl
answers_one_by_one w packs (t ∷ ts) =
    ap (λ bs. may_access w t ∷ bs) (sym (same_answers w (accessed w t) (same_access w packs t) ts) ∙ answers_one_by_one (accessed w t) (packs_after w packs t) ts)
