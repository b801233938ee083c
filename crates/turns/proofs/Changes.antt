-- What is seen of an entry at some moment: it as before, until the one step that changes it, and from then on as after.
use Rattle.std.proofs.Common.{◌≡◌, ◌⊎◌, inl, inr, ⊎_elim, ℕ, zero, suc, ◌+◌, ◌<◌, ◌≤◌, Bool, true, false, ◌&&◌, not, List, [], ◌∷◌, ◌++◌, length, map, take, get_or, Some, option_map, unwrap_or, bit_or, refl, ap, ◌∙◌, sym, subst, arith, zero-add, if◌then◌else◌}
use Rattle.std.specs.Prelude.{◌==◌, slice_get}
use Rattle.std.proofs.lemmas.Bool.{cases_lt, eqb-true, eq-eqb, true≢false}
use Rattle.std.proofs.lemmas.Grind.{flat_map-append}
use Rattle.std.proofs.lemmas.List.{length-map, take_all, get_or_past}
use Rattle.std.proofs.lemmas.Option.{slice_get_within, get_or_from_slice_get, slice_get-map}
use Rattle.space.specs.Word.{is_pack}
use Rattle.pieces.specs.Applied.{step_counts}
use Rattle.pieces.specs.Distinct.{is_none_of}
use Rattle.pieces.specs.Effects.{Effect, keeps, adds, writes, written, done, done_from, word_after, words_after, write_at, writes_at, gained}
use Rattle.pieces.specs.Phases.{IsPiece, changes}
use Rattle.pieces.specs.Steps.{steps, effect, effects}
use Rattle.pieces.specs.declared.piece.Piece.{Piece}
use Rattle.pieces.proofs.AllSteps.{length_words, word_at}
use Rattle.pieces.proofs.Packs.{AllSuit, packs_after_steps, same_page_after}
use Rattle.pieces.proofs.Writers.{piece_writes}
use Rattle.turns.specs.Writers.{writes_here, writers, all_writers}
use Rattle.turns.specs.Rules.{steps_in, word_in}
use Rattle.turns.specs.SharedWords.{IsPhase}
use Rattle.turns.specs.Watching.{page_in, entry_with, entry_before, entry_after}
use Rattle.turns.specs.declared.view.Opening.{Opening}
use Rattle.turns.proofs.Insertions.{take_writers}
use Rattle.turns.proofs.TouchSteps.{done_suit}

-- ---- a step that was done writes at an index

pub record IsWriter (i word n : ℕ) (es : List Effect) : Type 0 where
  pub k : ℕ
  pub below : k < n
  pub step : slice_get es k ≡ Some (writes i word)

pub record IsWritten (counts : ℕ → ℕ) (i word q : ℕ) (ess : List (List Effect)) : Type 0 where
  pub p : ℕ
  pub steps : List Effect
  pub piece : slice_get ess p ≡ Some steps
  pub writer : IsWriter i word (counts (q + p)) steps

parts : (i : ℕ) (js ks : List ℕ) → is_none_of (js ++ ks) i ≡ false → (is_none_of js i ≡ false) ⊎ (is_none_of ks i ≡ false)
parts i [] ks there = inr there
parts i (j ∷ js) ks there = by (not (j == i)) there (parts i js ks)
  where
    by : (t : Bool) → (t && is_none_of (js ++ ks) i) ≡ false → (is_none_of (js ++ ks) i ≡ false → (is_none_of js i ≡ false) ⊎ (is_none_of ks i ≡ false)) → ((t && is_none_of js i) ≡ false) ⊎ (is_none_of ks i ≡ false)
    by true h later = later h
    by false h later = inl refl

one_more : (i word n : ℕ) (e : Effect) (es : List Effect) → IsWriter i word n es → IsWriter i word (suc n) (e ∷ es)
one_more i word n e es h = record { k = suc h.k; below = let a : ℕ = h.k in let less : a < n = h.below in omega (arith, less); step = h.step }

-- where some of the first steps write, one does
the_writer : (i n : ℕ) (es : List Effect) → is_none_of (writes_at (take n es)) i ≡ false → (word : ℕ) × IsWriter i word n es
the_writer i zero es there = absurd (true≢false there)
the_writer i (suc n) [] there = absurd (true≢false there)
the_writer i (suc n) (keeps m ∷ es) there = let h = the_writer i n es there in (h.0, one_more i h.0 n (keeps m) es h.1)
the_writer i (suc n) (adds m bits ∷ es) there = let h = the_writer i n es there in (h.0, one_more i h.0 n (adds m bits) es h.1)
the_writer i (suc n) (writes m x ∷ es) there = by (m == i) refl there (the_writer i n es)
  where
    by : (t : Bool) → (m == i) ≡ t → (not t && is_none_of (writes_at (take n es)) i) ≡ false → (is_none_of (writes_at (take n es)) i ≡ false → (word : ℕ) × IsWriter i word n es) → (word : ℕ) × IsWriter i word (suc n) (writes m x ∷ es)
    by true is h later = (x, record { k = 0; below = omega arith; step = ap (λ j. Some (writes j x)) (eqb-true m i is) })
    by false is h later = let w = later h in (w.0, one_more i w.0 n (writes m x) es w.1)

pub the_written : (counts : ℕ → ℕ) (i q : ℕ) (ess : List (List Effect)) → is_none_of (writes_at (done_from q counts ess)) i ≡ false → (word : ℕ) × IsWritten counts i word q ess
the_written counts i q [] there = absurd (true≢false there)
the_written counts i q (es ∷ ess) there =
    ⊎_elim
    (λ (x : is_none_of (writes_at (take (counts q) es)) i ≡ false).
    let h = the_writer i (counts q) es x in
    let same : q ≡ q + 0 = omega arith in
    (h.0, record { p = 0; steps = es; piece = refl; writer = subst (λ m. IsWriter i h.0 (counts m) es) same h.1 }))
    (λ (x : is_none_of (writes_at (done_from (q + 1) counts ess)) i ≡ false).
    let h = the_written counts i (q + 1) ess x in
    let a : IsWritten counts i h.0 (q + 1) ess = h.1 in
    let same : (q + 1) + a.p ≡ q + suc a.p = omega arith in
    (h.0, record { p = suc a.p; steps = a.steps; piece = a.piece; writer = subst (λ m. IsWriter i h.0 (counts m) a.steps) same a.writer }))
    (parts i (writes_at (take (counts q) es)) (writes_at (done_from (q + 1) counts ess)) (ap (λ js. is_none_of js i) (sym (flat_map-append write_at (take (counts q) es) (done_from (q + 1) counts ess))) ∙ there))

-- ---- and it is the only one

some_writer : (i word n : ℕ) (es : List Effect) → IsWriter i word n es → 1 ≤ writers i es
some_writer i word n [] h = absurd (cc)
some_writer i word n (e ∷ es) h = by h.k h.step (λ j step. some_writer i word (suc j) es (record { k = j; below = omega arith; step = step }))
  where
    by : (k : ℕ) → slice_get (e ∷ es) k ≡ Some (writes i word) → ((j : ℕ) → slice_get es j ≡ Some (writes i word) → 1 ≤ writers i es) → 1 ≤ writers i (e ∷ es)
    by zero step later =
        let is : e ≡ writes i word = cc in
        let a : ℕ = writers i es in let b : ℕ = writers i (e ∷ es) in
        let b_is : b ≡ 1 + a = ap (λ f. writers i (f ∷ es)) is ∙ ap (λ t. (if t then 1 else 0) + writers i es) (eq-eqb i i refl) in
        omega (arith, b_is)
    by (suc j) step later = let a : ℕ = writers i es in let less : 1 ≤ a = later j step in omega (arith, less)

all_some : (i word n p : ℕ) (es : List Effect) (ess : List (List Effect)) → slice_get ess p ≡ Some es → IsWriter i word n es → 1 ≤ all_writers i ess
all_some i word n p es [] there h = absurd (cc)
all_some i word n zero es (fs ∷ ess) there h =
    let is : fs ≡ es = cc in
    let a : ℕ = writers i fs in let b : ℕ = all_writers i ess in let less : 1 ≤ a = subst (λ gs. 1 ≤ writers i gs) (sym is) (some_writer i word n es h) in omega (arith, less)
all_some i word n (suc p) es (fs ∷ ess) there h = let a : ℕ = writers i fs in let b : ℕ = all_writers i ess in let less : 1 ≤ b = all_some i word n p es ess there h in omega (arith, less)

skipped : (i : ℕ) (es fs : List Effect) → writers i es ≡ 0 → written i (es ++ fs) ≡ written i fs
skipped i [] fs none = refl
skipped i (keeps m ∷ es) fs none = skipped i es fs (sym (zero-add (writers i es)) ∙ none)
skipped i (adds m bits ∷ es) fs none = skipped i es fs (sym (zero-add (writers i es)) ∙ none)
skipped i (writes m x ∷ es) fs none = by (m == i) none (skipped i es fs)
  where
    by : (t : Bool) → (if t then 1 else 0) + writers i es ≡ 0 → (writers i es ≡ 0 → written i (es ++ fs) ≡ written i fs) → (if t then Some x else written i (es ++ fs)) ≡ written i fs
    by true h later = absurd (omega (arith, h))
    by false h later = later (sym (zero-add (writers i es)) ∙ h)

kept : (i word : ℕ) (es fs : List Effect) → written i es ≡ Some word → written i (es ++ fs) ≡ Some word
kept i word [] fs is = absurd (cc)
kept i word (keeps m ∷ es) fs is = kept i word es fs is
kept i word (adds m bits ∷ es) fs is = kept i word es fs is
kept i word (writes m x ∷ es) fs is = by (m == i) is (kept i word es fs)
  where
    by : (t : Bool) → (if t then Some x else written i es) ≡ Some word → (written i es ≡ Some word → written i (es ++ fs) ≡ Some word) → (if t then Some x else written i (es ++ fs)) ≡ Some word
    by true h later = h
    by false h later = later h

-- what it wrote stands there after the first steps
inside : (i word n : ℕ) (es : List Effect) → writers i es ≤ 1 → IsWriter i word n es → written i (take n es) ≡ Some word
inside i word zero es one h = absurd (let a : ℕ = h.k in let less : a < 0 = h.below in omega (arith, less))
inside i word (suc n) [] one h = absurd (cc)
inside i word (suc n) (e ∷ es) one h =
    by h.k h.below h.step
    (λ j low step. inside i word n es (let a : ℕ = writes_here i e in let b : ℕ = writers i es in let few : a + b ≤ 1 = one in omega (arith, few)) (record { k = j; below = low; step = step }))
  where
    rest : (f : Effect) (j : ℕ) → writers i (f ∷ es) ≤ 1 → j < n → slice_get es j ≡ Some (writes i word) → written i (take n es) ≡ Some word → written i (take (suc n) (f ∷ es)) ≡ Some word
    rest (keeps m) j few low step later = later
    rest (adds m bits) j few low step later = later
    rest (writes m x) j few low step later = on (m == i) few
      where
        on : (t : Bool) → (if t then 1 else 0) + writers i es ≤ 1 → (if t then Some x else written i (take n es)) ≡ Some word
        on false few = later
        on true few = let a : ℕ = writers i es in let less : 1 ≤ a = some_writer i word n es (record { k = j; below = low; step = step }) in absurd (omega (arith, few, less))

    by : (k : ℕ) → k < suc n → slice_get (e ∷ es) k ≡ Some (writes i word) → ((j : ℕ) → j < n → slice_get es j ≡ Some (writes i word) → written i (take n es) ≡ Some word) → written i (take (suc n) (e ∷ es)) ≡ Some word
    by zero low step later = let is : e ≡ writes i word = cc in ap (λ f. written i (f ∷ take n es)) is ∙ ap (λ t. if t then Some word else written i (take n es)) (eq-eqb i i refl)
    by (suc j) low step later = let low' : j < n = omega (arith, low) in rest e j one low' step (later j low' step)

-- what it wrote stands there whatever else was done
pub only_written : (counts : ℕ → ℕ) (i word q : ℕ) (ess : List (List Effect)) → all_writers i ess ≤ 1 → IsWritten counts i word q ess → written i (done_from q counts ess) ≡ Some word
only_written counts i word q [] one h = absurd (cc)
only_written counts i word q (es ∷ ess) one h = by h.p h.piece h.writer (λ p piece writer. only_written counts i word (q + 1) ess (let a : ℕ = writers i es in let b : ℕ = all_writers i ess in let few : a + b ≤ 1 = one in omega (arith, few)) (record { p = p; steps = h.steps; piece = piece; writer = writer }))
  where
    by : (p : ℕ) → slice_get (es ∷ ess) p ≡ Some h.steps → IsWriter i word (counts (q + p)) h.steps
        → ((p : ℕ) → slice_get ess p ≡ Some h.steps → IsWriter i word (counts ((q + 1) + p)) h.steps → written i (done_from (q + 1) counts ess) ≡ Some word) → written i (done_from q counts (es ∷ ess)) ≡ Some word
    by zero piece writer later =
        let is : h.steps ≡ es = cc in
        let here : q + 0 ≡ q = omega arith in
        let a : ℕ = writers i es in let b : ℕ = all_writers i ess in let few : a + b ≤ 1 = one in
        kept i word (take (counts q) es) (done_from (q + 1) counts ess) (inside i word (counts q) es (omega (arith, few)) (subst (λ n. IsWriter i word (counts n) es) here (subst (IsWriter i word (counts (q + 0))) is writer)))
    by (suc p) piece writer later =
        let there : q + suc p ≡ (q + 1) + p = omega arith in
        let writer' : IsWriter i word (counts ((q + 1) + p)) h.steps = subst (λ n. IsWriter i word (counts n) h.steps) there writer in
        let a : ℕ = writers i (take (counts q) es) in let b : ℕ = writers i es in let c : ℕ = all_writers i ess in
        let few : b + c ≤ 1 = one in let some : 1 ≤ c = all_some i word (counts ((q + 1) + p)) p h.steps ess piece writer' in let fewer : a ≤ b = take_writers i (counts q) es in
        skipped i (take (counts q) es) (done_from (q + 1) counts ess) (omega (arith, few, some, fewer)) ∙ later p piece writer'

-- ---- entries

-- of a moment: the word is a pack, and its entry is that with the steps that were done
pub at_moment : (o : Opening) → IsPhase o → (counts : ℕ → ℕ) (i word : ℕ) → i < length o.words → word ≡ word_in o counts i → (is_pack word ≡ true) × (page_in word ≡ entry_with o counts i)
at_moment o phase counts i word within is =
    let es : List Effect = done counts (steps_in o) in
    let suit : AllSuit o.words es = done_suit o.words 0 counts o.pieces phase.can.entries in
    let word_is : word ≡ get_or (words_after o.words es) i 0 = is ∙ ap (λ k. word_after (get_or o.words i 0) k es) (sym (zero-add i)) ∙ sym (word_at 0 o.words es i within) in
    let many : length (words_after o.words es) ≡ length o.words = length_words 0 o.words es in
    (ap is_pack word_is ∙ packs_after_steps o.words es phase.can.packs suit i 0 (omega (arith, many, within)), ap page_in word_is)

-- where a step that was done writes, the entry is what it wrote
pub as_written : (o : Opening) → IsPhase o → (counts : ℕ → ℕ) (i word : ℕ) → i < length o.words → IsWritten counts i word 0 (steps_in o) → entry_with o counts i ≡ page_in word
as_written o phase counts i word within h =
    let es : List Effect = done counts (steps_in o) in
    ap page_in
    (word_at 0 o.words es i within ∙ ap (λ k. word_after (get_or o.words i 0) k es) (zero-add i)
    ∙ ap (λ x. unwrap_or x (bit_or (get_or o.words i 0) (gained i es))) (only_written counts i word 0 (steps_in o) (phase.opening.apart.one i) h))

-- and so it is with no fewer steps
more_written : (counts more : ℕ → ℕ) (i word : ℕ) (ess : List (List Effect)) → ((p : ℕ) → p < length ess → counts p ≤ more p) → IsWritten counts i word 0 ess → IsWritten more i word 0 ess
more_written counts more i word ess grown h =
    let same : 0 + h.p ≡ h.p = zero-add h.p in
    let k : ℕ = h.writer.k in
    let a : ℕ = counts h.p in let b : ℕ = more h.p in
    let low : k < a = subst (λ n. k < counts n) same h.writer.below in
    let less : a ≤ b = grown h.p (slice_get_within ess h.p h.steps h.piece) in
    let low' : k < b = omega (arith, low, less) in
    record { p = h.p; steps = h.steps; piece = h.piece; writer = record { k = k; below = subst (λ n. k < more n) (sym same) low'; step = h.writer.step } }

steps_there : (w : List ℕ) (ps : List Piece) (p : ℕ) (es : List Effect) → slice_get (map (effects w) ps) p ≡ Some es → get_or (step_counts w ps) p 0 ≡ length es
steps_there w [] p es there = absurd (cc)
steps_there w (q ∷ ps) zero es there = let is : effects w q ≡ es = cc in sym (length-map (steps w q) (effect w)) ∙ ap length is
steps_there w (q ∷ ps) (suc p) es there = steps_there w ps p es there

all_written : (o : Opening) (counts : ℕ → ℕ) (i word : ℕ) → IsWritten counts i word 0 (steps_in o) → IsWritten (λ p. get_or (step_counts o.words o.pieces) p 0) i word 0 (steps_in o)
all_written o counts i word h =
    let same : 0 + h.p ≡ h.p = zero-add h.p in
    let k : ℕ = h.writer.k in
    let low : k < length h.steps = slice_get_within h.steps k (writes i word) h.writer.step in
    record {
      p = h.p;
      steps = h.steps;
      piece = h.piece;
      writer = record {
        k = k;
        below = subst (λ n. k < n) (sym (ap (λ p. get_or (step_counts o.words o.pieces) p 0) same ∙ steps_there o.words o.pieces h.p h.steps h.piece)) low;
        step = h.writer.step;
      };
    }

-- ---- the one change

-- an entry is as before, or it is as after, and so with any steps more
pub before_or_after : (o : Opening) → IsPhase o → (counts : ℕ → ℕ) (i : ℕ) → i < length o.words
    → (entry_with o counts i ≡ entry_before o i)
    ⊎ ((more : ℕ → ℕ) → ((p : ℕ) → p < length o.pieces → counts p ≤ more p) → entry_with o more i ≡ entry_after o i)
before_or_after o phase counts i within = by (is_none_of (writes_at (done counts (steps_in o))) i) refl
  where
    by : (t : Bool) → is_none_of (writes_at (done counts (steps_in o))) i ≡ t
        → (entry_with o counts i ≡ entry_before o i) ⊎ ((more : ℕ → ℕ) → ((p : ℕ) → p < length o.pieces → counts p ≤ more p) → entry_with o more i ≡ entry_after o i)
    by true none = inl (same_page_after o.words (done counts (steps_in o)) phase.can.packs (done_suit o.words 0 counts o.pieces phase.can.entries) i none)
    by false there =
        let h = the_written counts i 0 (steps_in o) there in
        let many : length (steps_in o) ≡ length o.pieces = length-map o.pieces (effects o.words) in
        inr (λ more grown.
        as_written o phase more i h.0 within (more_written counts more i h.0 (steps_in o) (λ p less. grown p (subst (λ n. p < n) many less)) h.1)
        ∙ sym (as_written o phase (λ p. get_or (step_counts o.words o.pieces) p 0) i h.0 within (all_written o counts i h.0 h.1)))

-- ---- the words that a piece changes

writer_of : (i : ℕ) (es : List Effect) → is_none_of (writes_at es) i ≡ false → (word : ℕ) × IsWriter i word (length es) es
writer_of i es there = the_writer i (length es) es (ap (λ fs. is_none_of (writes_at fs) i) (take_all (length es) es (omega arith)) ∙ there)

-- with all steps of a piece done, each entry that it changes is as after
pub changed_after : (o : Opening) → IsPhase o → (p : ℕ) (q : Piece) → slice_get o.pieces p ≡ Some q → (i : ℕ) → is_none_of (changes q) i ≡ false → (counts : ℕ → ℕ) → length (steps o.words q) ≤ counts p → entry_with o counts i ≡ entry_after o i
changed_after o phase p q there i changed counts full = by (cases_lt i (length o.words))
  where
    past_all : (more : ℕ → ℕ) → length o.words ≤ i → entry_with o more i ≡ page_in 0
    past_all more past = let l = length_words 0 o.words (done more (steps_in o)) in let out : length (words_after o.words (done more (steps_in o))) ≤ i = omega (arith, l, past) in ap page_in (get_or_past (words_after o.words (done more (steps_in o))) i 0 out)

    by : (i < length o.words) ⊎ (length o.words ≤ i) → entry_with o counts i ≡ entry_after o i
    by (inr past) = past_all counts past ∙ sym (past_all (λ n. get_or (step_counts o.words o.pieces) n 0) past)
    by (inl within) =
        let es : List Effect = effects o.words q in
        let of : slice_get (steps_in o) p ≡ Some es = slice_get-map (effects o.words) o.pieces p ∙ ap (option_map (effects o.words)) there in
        let each : IsPiece q = subst IsPiece (get_or_from_slice_get o.pieces p q q there) (phase.each p q (slice_get_within o.pieces p q there)) in
        let w = writer_of i es (ap (λ js. is_none_of js i) (piece_writes o.words q each) ∙ changed) in
        let many : length es ≡ length (steps o.words q) = length-map (steps o.words q) (effect o.words) in
        let k : ℕ = w.1.k in
        let a : ℕ = length es in let b : ℕ = counts p in
        let low : k < a = w.1.below in
        let low' : k < b = omega (arith, low, many, full) in
        let h : IsWritten counts i w.0 0 (steps_in o) = record { p = p; steps = es; piece = of; writer = record { k = k; below = subst (λ n. k < counts n) (sym (zero-add p)) low'; step = w.1.step } } in
        as_written o phase counts i w.0 within h ∙ sym (as_written o phase (λ n. get_or (step_counts o.words o.pieces) n 0) i w.0 within (all_written o counts i w.0 h))
