-- Strips whose status goes to one fold word work as one strip of all their nodes.
use Rattle.std.proofs.Common.{◌≡◌, ℕ, suc, ◌+◌, ◌*◌, ◌^◌, Bool, true, false, List, [], ◌∷◌, ◌++◌, length, map, Option, Some, None, unwrap_or, bit_or, refl, ap, ◌∙◌, sym, arith, if◌then◌else◌}
use Rattle.std.specs.Prelude.{◌==◌}
use Rattle.std.specs.List.{flat_map, zip, All}
use Rattle.std.specs.Int.Bits.{or_zero_l, or_zero_r}
use Rattle.std.proofs.lemmas.List.{map-append, append-nil}
use Rattle.std.proofs.lemmas.Nat.{or_block}
use Rattle.fpage.specs.Rights.{no_rights, number, join}
use Rattle.fpage.specs.declared.rights.Rights.{Rights}
use Rattle.space.proofs.Words.{or_number}
use Rattle.pieces.specs.Contents.{StripContent, IsStrip}
use Rattle.pieces.specs.Effects.{Effect, gained, or_written, written, word_after, words_from, words_after}
use Rattle.pieces.specs.Steps.{narrow, fold_of, effect, effects, status_in, status_bits}
use Rattle.pieces.specs.Applied.{worked}
use Rattle.pieces.specs.Laws.{joined_strips}
use Rattle.pieces.specs.declared.piece.Piece.TheVariants as piece
use Rattle.pieces.proofs.AllSteps.{worked_all}
use Rattle.pieces.proofs.InOrder.{gained_append}
use Rattle.pieces.proofs.InPieces.{zip_append, status_append, flat_of_map}

-- ---- what is written and gained at one index

-- what steps write at an index, before others that wrote this
abbrev pub over : ℕ → List Effect → Option ℕ → Option ℕ
over i [] later = later
over i (e ∷ es) later = or_written i e (over i es later)

pub written_over : (i : ℕ) (es : List Effect) → written i es ≡ over i es None
written_over i [] = refl
written_over i (e ∷ es) = ap (or_written i e) (written_over i es)

pub over_append : (i : ℕ) (es fs : List Effect) (later : Option ℕ) → over i (es ++ fs) later ≡ over i es (over i fs later)
over_append i [] fs later = refl
over_append i (e ∷ es) fs later = ap (or_written i e) (over_append i es fs later)

-- steps that write and gain the same at each index leave the same words
same_words : (j : ℕ) (w : List ℕ) (es fs : List Effect) → ((i : ℕ) → written i es ≡ written i fs) → ((i : ℕ) → gained i es ≡ gained i fs) → words_from j w es ≡ words_from j w fs
same_words j [] es fs same_written same_gained = refl
same_words j (x ∷ w) es fs same_written same_gained =
    ap (λ o. unwrap_or o (bit_or x (gained j es)) ∷ words_from (j + 1) w es) (same_written j) ∙ ap (λ b. unwrap_or (written j fs) (bit_or x b) ∷ words_from (j + 1) w es) (same_gained j)
    ∙ ap (λ ys. word_after x j fs ∷ ys) (same_words (j + 1) w es fs same_written same_gained)

-- ---- narrows and folds

module _ (w : List ℕ) where
  -- what the narrows of a strip do
  abbrev pub narrows : List ℕ → List Rights → List Effect
  narrows is masks = map (effect w) (map (λ e. narrow e.0 e.1) (zip is masks))

  -- what its fold does
  abbrev pub folding : Option ℕ → Rights → List Effect
  folding fold status = map (effect w) (fold_of fold status)

  pub strip_is : (s : StripContent) → effects w (piece.Strip s) ≡ narrows s.indexes s.masks ++ folding s.fold (status_in w s.indexes)
  strip_is s = map-append (effect w) (map (λ e. narrow e.0 e.1) (zip s.indexes s.masks)) (fold_of s.fold (status_in w s.indexes))

  narrows_append : (is js : List ℕ) (ms ns : List Rights) → length is ≡ length ms → narrows (is ++ js) (ms ++ ns) ≡ narrows is ms ++ narrows js ns
  narrows_append is js ms ns same =
      ap (λ es. map (effect w) (map (λ e. narrow e.0 e.1) es)) (zip_append is js ms ns same)
      ∙ ap (map (effect w)) (map-append (λ e. narrow e.0 e.1) (zip is ms) (zip js ns)) ∙ map-append (effect w) (map (λ e. narrow e.0 e.1) (zip is ms)) (map (λ e. narrow e.0 e.1) (zip js ns))

  pub folds_write_nothing : (i : ℕ) (fold : Option ℕ) (status : Rights) (later : Option ℕ) → over i (folding fold status) later ≡ later
  folds_write_nothing i None status later = refl
  folds_write_nothing i (Some j) status later = refl

  pub narrows_gain_nothing : (i : ℕ) (is : List ℕ) (ms : List Rights) → gained i (narrows is ms) ≡ 0
  narrows_gain_nothing i [] ms = refl
  narrows_gain_nothing i (j ∷ is) [] = refl
  narrows_gain_nothing i (j ∷ is) (m ∷ ms) = or_zero_l (gained i (narrows is ms)) ∙ narrows_gain_nothing i is ms

  or_status_bits : (a b : Rights) → bit_or (status_bits a) (status_bits b) ≡ status_bits (join a b)
  or_status_bits a b =
      let split : (n : ℕ) → 2 ^ 3 * n ≡ n * 2 ^ 3 + 0 = λ n. omega arith in
      ap (λ x. bit_or x (status_bits b)) (split (number a)) ∙ ap (bit_or (number a * 2 ^ 3 + 0)) (split (number b)) ∙ or_block 3 (number a) (number b) 0 0 (omega arith) (omega arith)
      ∙ ap (λ n. n * 2 ^ 3 + bit_or 0 0) (or_number a b) ∙ sym (split (number (join a b)))

  folds_gain_both : (i : ℕ) (fold : Option ℕ) (a b : Rights) → bit_or (gained i (folding fold a)) (gained i (folding fold b)) ≡ gained i (folding fold (join a b))
  folds_gain_both i None a b = refl
  folds_gain_both i (Some j) a b = by (j == i)
    where
      by : (t : Bool) → bit_or (bit_or (if t then status_bits a else 0) 0) (bit_or (if t then status_bits b else 0) 0) ≡ bit_or (if t then status_bits (join a b) else 0) 0
      by true = ap (λ x. bit_or x (bit_or (status_bits b) 0)) (or_zero_r (status_bits a)) ∙ ap (bit_or (status_bits a)) (or_zero_r (status_bits b)) ∙ or_status_bits a b ∙ sym (or_zero_r (status_bits (join a b)))
      by false = refl

  fold_of_nothing : (i : ℕ) (fold : Option ℕ) → 0 ≡ gained i (folding fold no_rights)
  fold_of_nothing i None = refl
  fold_of_nothing i (Some j) = by (j == i)
    where
      by : (t : Bool) → 0 ≡ bit_or (if t then status_bits no_rights else 0) 0
      by true = refl
      by false = refl

  -- ---- all strips

  pub all_written : (i : ℕ) (ss : List StripContent) → All IsStrip ss → (later : Option ℕ) → over i (flat_map (λ s. effects w (piece.Strip s)) ss) later ≡ over i (narrows (joined_strips ss).indexes (joined_strips ss).masks) later
  all_written i [] each later = refl
  all_written i (s ∷ ss) each later =
      let is : IsStrip s = each 0 s (omega arith) in
      let others = joined_strips ss in
      over_append i (effects w (piece.Strip s)) (flat_map (λ t. effects w (piece.Strip t)) ss) later
      ∙ ap (over i (effects w (piece.Strip s))) (all_written i ss (λ k d less. each (suc k) d (omega (arith, less))) later)
      ∙ ap (λ es. over i es (over i (narrows others.indexes others.masks) later)) (strip_is s)
      ∙ over_append i (narrows s.indexes s.masks) (folding s.fold (status_in w s.indexes)) (over i (narrows others.indexes others.masks) later)
      ∙ ap (over i (narrows s.indexes s.masks)) (folds_write_nothing i s.fold (status_in w s.indexes) (over i (narrows others.indexes others.masks) later))
      ∙ sym (over_append i (narrows s.indexes s.masks) (narrows others.indexes others.masks) later)
      ∙ ap (λ es. over i es later) (sym (narrows_append s.indexes others.indexes s.masks others.masks (is.indexes ∙ sym is.masks)))

  all_gained : (i : ℕ) (fold : Option ℕ) (ss : List StripContent) → All (λ s. s.fold ≡ fold) ss → gained i (flat_map (λ s. effects w (piece.Strip s)) ss) ≡ gained i (folding fold (status_in w (joined_strips ss).indexes))
  all_gained i fold [] each = fold_of_nothing i fold
  all_gained i fold (s ∷ ss) each =
      let others = joined_strips ss in
      gained_append i (effects w (piece.Strip s)) (flat_map (λ t. effects w (piece.Strip t)) ss)
      ∙ ap (bit_or (gained i (effects w (piece.Strip s)))) (all_gained i fold ss (λ k d less. each (suc k) d (omega (arith, less))))
      ∙ ap (λ es. bit_or (gained i es) (gained i (folding fold (status_in w others.indexes)))) (strip_is s)
      ∙ ap (λ b. bit_or b (gained i (folding fold (status_in w others.indexes))))
      (gained_append i (narrows s.indexes s.masks) (folding s.fold (status_in w s.indexes)) ∙ ap (λ b. bit_or b (gained i (folding s.fold (status_in w s.indexes)))) (narrows_gain_nothing i s.indexes s.masks)
      ∙ or_zero_l (gained i (folding s.fold (status_in w s.indexes))) ∙ ap (λ f. gained i (folding f (status_in w s.indexes))) (each 0 s (omega arith)))
      ∙ folds_gain_both i fold (status_in w s.indexes) (status_in w others.indexes) ∙ ap (λ r. gained i (folding fold r)) (sym (status_append w s.indexes others.indexes))

  pub strips_in_pieces : (fold : Option ℕ) (ss : List StripContent) → All IsStrip ss → All (λ s. s.fold ≡ fold) ss → worked w (map piece.Strip ss) ≡ worked w (piece.Strip (record (joined_strips ss) { fold = fold }) ∷ [])
  strips_in_pieces fold ss each one_fold =
      let whole : StripContent = record (joined_strips ss) { fold = fold } in
      let apart = flat_map (λ s. effects w (piece.Strip s)) ss in
      let parts = narrows whole.indexes whole.masks in
      let last = folding fold (status_in w whole.indexes) in
      worked_all w (map piece.Strip ss) ∙ ap (words_after w) (flat_of_map piece.Strip (effects w) ss)
      ∙ same_words 0 w apart (parts ++ last)
      (λ i. written_over i apart ∙ all_written i ss each None ∙ ap (over i parts) (sym (folds_write_nothing i fold (status_in w whole.indexes) None)) ∙ sym (over_append i parts last None) ∙ sym (written_over i (parts ++ last)))
      (λ i. all_gained i fold ss one_fold ∙ sym (or_zero_l (gained i last)) ∙ ap (λ b. bit_or b (gained i last)) (sym (narrows_gain_nothing i whole.indexes whole.masks)) ∙ sym (gained_append i parts last))
      ∙ ap (words_after w) (sym (strip_is whole) ∙ sym (append-nil (effects w (piece.Strip whole)))) ∙ sym (worked_all w (piece.Strip whole ∷ []))
