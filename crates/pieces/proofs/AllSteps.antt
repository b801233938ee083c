-- Words after steps; all steps of all pieces.
use Rattle.std.proofs.Common.{◌≡◌, ℕ, zero, suc, ◌+◌, ◌<◌, ◌≤◌, List, [], ◌∷◌, ◌++◌, length, map, get_or, refl, ap, ◌∙◌, sym, arith}
use Rattle.std.specs.List.{flat_map}
use Rattle.std.proofs.lemmas.List.{take_all, length-map}
use Rattle.std.specs.Int.Bits.{or_zero_r}
use Rattle.pieces.specs.Effects.{Effect, word_after, words_from, words_after, done_from}
use Rattle.pieces.specs.Steps.{steps, effects}
use Rattle.pieces.specs.Applied.{applied, step_counts, worked}
use Rattle.pieces.specs.declared.piece.Piece.{Piece}

pub length_words : (j : ℕ) (w : List ℕ) (es : List Effect) → length (words_from j w es) ≡ length w
length_words j [] es = refl
length_words j (x ∷ w) es = ap suc (length_words (j + 1) w es)

pub word_at : (j : ℕ) (w : List ℕ) (es : List Effect) (i : ℕ) → i < length w → get_or (words_from j w es) i 0 ≡ word_after (get_or w i 0) (j + i) es
word_at j [] es i within = absurd (omega (arith, within))
word_at j (x ∷ w) es zero within = let same : j ≡ j + 0 = omega arith in ap (λ k. word_after x k es) same
word_at j (x ∷ w) es (suc i) within =
    let same : (j + 1) + i ≡ j + suc i = omega arith in word_at (j + 1) w es i (omega (arith, within)) ∙ ap (λ k. word_after (get_or w i 0) k es) same

-- no step
done_none : (p : ℕ) (ess : List (List Effect)) → done_from p (λ q. 0) ess ≡ []
done_none p [] = refl
done_none p (es ∷ ess) = done_none (p + 1) ess

pub words_none : (j : ℕ) (w : List ℕ) → words_from j w [] ≡ w
words_none j [] = refl
words_none j (x ∷ w) = rw (or_zero_r x, words_none (j + 1) w) refl

pub nothing_done : (w : List ℕ) (ps : List Piece) → applied w ps (λ p. 0) ≡ w
nothing_done w ps = ap (words_after w) (done_none 0 (map (effects w) ps)) ∙ words_none 0 w

-- all steps
pub all_steps : (w : List ℕ) (q : ℕ) (ps : List Piece) (counts : ℕ → ℕ) → ((p : ℕ) → p < length ps → get_or (step_counts w ps) p 0 ≤ counts (q + p)) → done_from q counts (map (effects w) ps) ≡ flat_map (effects w) ps
all_steps w q [] counts full = refl
all_steps w q (p ∷ ps) counts full =
    let here : q + 0 ≡ q = omega arith in
    let some : length (steps w p) ≤ counts (q + 0) = full 0 (omega arith) in
    let long : length (effects w p) ≤ counts q = rw length-map (rw here at some) in
    rw (take_all (counts q) (effects w p) long)
    (ap (λ es. effects w p ++ es) (all_steps w (q + 1) ps counts (λ r less. let same : q + suc r ≡ (q + 1) + r = omega arith in rw same at (full (suc r) (omega (arith, less))))))

pub worked_all : (w : List ℕ) (ps : List Piece) → worked w ps ≡ words_after w (flat_map (effects w) ps)
worked_all w ps = ap (words_after w) (all_steps w 0 ps (λ p. get_or (step_counts w ps) p 0) (λ p less. let same : p ≡ 0 + p = omega arith in rw (sym same) (omega arith)))
