-- The words of some pages after a strip of them: each page has lost its rights, and no other word has changed but the fold word.
use Rattle.std.proofs.Common.{◌≡◌, ℕ, suc, zero-add, ◌^◌, ◌<◌, true, false, Bool, ◌&&◌, ◌||◌, not, List, [], ◌∷◌, ◌++◌, length, map, replicate, Option, Some, None, slice_index, unwrap_or, bit_or, refl, sym, ap, ◌∙◌, subst, arith, ◌⊎◌, inl, inr, if◌then◌else◌}
use Rattle.std.specs.Prelude.{◌==◌, is_some}
use Rattle.std.specs.List.{All}
use Rattle.std.specs.Option.{option_and_then, option_map}
use Rattle.std.specs.Int.Bits.{or_zero_l, or_zero_r}
use Rattle.std.proofs.lemmas.Bool.{eq-eqb, ne_eqb}
use Rattle.std.proofs.lemmas.List.{append-nil}
use Rattle.fpage.specs.Rights.{no_rights, is_empty, has, without}
use Rattle.fpage.specs.declared.rights.Rights.{Rights}
use Rattle.fpage.proofs.RightSets.{has-without, has-none, same_rights}
use Rattle.space.specs.declared.place.Place.{Place}
use Rattle.space.specs.declared.place.Entry.{Entry}
use Rattle.space.specs.declared.shards.Shards.{Shards}
use Rattle.space.specs.Place.{same_place}
use Rattle.space.specs.Word.{word_of, entry_of, FrameFits}
use Rattle.space.specs.Entries.{narrowed, with_status}
use Rattle.space.specs.Shards.{IsPlace, index_of, entry_at}
use Rattle.space.proofs.Places.{same_or_apart, same_self, same_is}
use Rattle.space.proofs.ShardWords.{words_are_their_own, entries_fit}
use Rattle.space.proofs.Words.{unpack_gives_back, pack_gains_status}
use Rattle.pieces.specs.Contents.{StripContent}
use Rattle.pieces.specs.Effects.{Effect, gained, written, word_after, words_after}
use Rattle.pieces.specs.Masks.{masks_of}
use Rattle.pieces.specs.Steps.{entry_in, effects, narrowed_by, status_bits, status_in}
use Rattle.pieces.specs.Applied.{worked}
use Rattle.pieces.specs.declared.piece.Piece.TheVariants as piece
use Rattle.pieces.proofs.AllSteps.{word_at, worked_all}
use Rattle.pieces.proofs.InOrder.{gained_append}
use Rattle.pieces.proofs.WholeStrips.{over, written_over, over_append, narrows, folding, strip_is, folds_write_nothing, narrows_gain_nothing}
use Rattle.holdings.specs.Places.{any_of}
use Rattle.holdings.proofs.Contents.WordChanges.{place_kept, same_by_word, there_if_held}
use Rattle.holdings.proofs.Stripping.Walks.{walked, narrowed_frame}
use Rattle.holdings.specs.Inner.Words.{AreWordsOf, IsThere, IsWith}

-- ---- entries that lose

-- an entry that has rights and loses none stays but for its status
spared_stays : (a : Rights) (e : Entry) → is_empty e.rights ≡ false → narrowed true no_rights e ≡ narrowed false a e
spared_stays a e some = by (without e.rights no_rights) (same_rights (without e.rights no_rights) e.rights (λ b. has-without e.rights no_rights b ∙ ap (λ x. has e.rights b && not x) (has-none b) ∙ all (has e.rights b)))
  where
    all : (x : Bool) → (x && not false) ≡ x
    all x = grind arith

    by : (r : Rights) → r ≡ e.rights → (if is_empty r then None else Some (record e { rights = r; status = no_rights })) ≡ Some (record e { status = no_rights })
    by r same = ap (λ x. if is_empty x then None else Some (record e { rights = x; status = no_rights })) same ∙ ap (λ b. if b then None else Some (record e { status = no_rights })) some

-- what a mask leaves has the frame that was there
pub narrowed_fits : (mask : Rights) (o : Option Entry) → FrameFits o → FrameFits (narrowed_by mask o)
narrowed_fits mask None fits = λ e is. absurd (cc is)
narrowed_fits mask (Some k) fits = λ e is. let same = narrowed_frame true mask k e is in subst (λ n. n < 2 ^ 24) same (fits k refl)

-- one of some pages whose words are there
there_among : {s : Shards} (ps : List Place) → All (IsThere s) ps → (p : Place) → any_of ps p ≡ true → IsThere s p
there_among [] there p among = absurd (cc among)
there_among {s} (q ∷ qs) there p among = by (same_place p q) refl among (there_among {s = s} qs (λ k d less. there (suc k) d (omega (arith, less))) p)
  where
    by : (b : Bool) → same_place p q ≡ b → (b || any_of qs p) ≡ true → (any_of qs p ≡ true → IsThere s p) → IsThere s p
    by true same _ later = subst (IsThere s) (sym (same_is p q same)) (there 0 q (omega arith))
    by false _ rest later = later rest

-- ---- what narrows write

module _ (s : Shards) (w : List ℕ) (p : Place) (place : IsPlace s p) where
  -- what is written at a place that may be one of these, which all lose the same
  all_lose : (qs : List Place) → All (IsThere s) qs → (a : Rights) (later : Option ℕ)
      → over (index_of s p) (narrows w (map (index_of s) qs) (replicate (length qs) a)) later ≡ (if any_of qs p then Some (word_of (narrowed_by a (entry_in w (index_of s p)))) else later)
  all_lose [] places a later = refl
  all_lose (q ∷ qs) places a later = by (same_or_apart p q) (all_lose qs (λ k d less. places (suc k) d (omega (arith, less))) a later)
    where
      by : (p ≡ q) ⊎ (same_place p q ≡ false)
          → over (index_of s p) (narrows w (map (index_of s) qs) (replicate (length qs) a)) later ≡ (if any_of qs p then Some (word_of (narrowed_by a (entry_in w (index_of s p)))) else later)
          → (if index_of s q == index_of s p then Some (word_of (narrowed_by a (entry_in w (index_of s q)))) else over (index_of s p) (narrows w (map (index_of s) qs) (replicate (length qs) a)) later)
          ≡ (if same_place p q || any_of qs p then Some (word_of (narrowed_by a (entry_in w (index_of s p)))) else later)
      by (inl same) rest = rw (sym same, eq-eqb (index_of s p) (index_of s p) refl, same_self p) refl
      by (inr apart) rest =
          rw (apart, ne_eqb (index_of s q) (index_of s p) (λ same. cc (apart, ap (λ x. same_place x q) (sym (words_are_their_own s q p (places 0 q (omega arith)).place place (places 0 q (omega arith)).word same)), same_self q))) rest

-- ---- a strip of some pages, of which the first may be spared

module _ (s : Shards) (w : List ℕ) (are : AreWordsOf s w) (c : Place) (rest : List Place) (places : All (IsThere s) (c ∷ rest)) (a : Rights) (f : Bool)
    (rights : (p : Place) (e : Entry) → IsPlace s p → entry_at s p ≡ Some e → is_empty e.rights ≡ false) where
  -- the indexes of their words, and what each loses
  abbrev lost_at : List ℕ
  lost_at = map (index_of s) (c ∷ rest)

  abbrev lost_rights : List Rights
  lost_rights = masks_of (not f) a (length (c ∷ rest))

  abbrev lost : List Effect
  lost = narrows w lost_at lost_rights

  -- what is written at a place
  written_at : (p : Place) → IsPlace s p → written (index_of s p) lost ≡ (if same_place p c then Some (word_of (narrowed_by (if not f then no_rights else a) (entry_in w (index_of s p)))) else if any_of rest p then Some (word_of (narrowed_by a (entry_in w (index_of s p)))) else None)
  written_at p place = written_over (index_of s p) lost ∙ by (same_or_apart p c) (all_lose s w p place rest (λ k d less. places (suc k) d (omega (arith, less))) a None)
    where
      by : (p ≡ c) ⊎ (same_place p c ≡ false)
          → over (index_of s p) (narrows w (map (index_of s) rest) (replicate (length rest) a)) None ≡ (if any_of rest p then Some (word_of (narrowed_by a (entry_in w (index_of s p)))) else None)
          → (if index_of s c == index_of s p then Some (word_of (narrowed_by (if not f then no_rights else a) (entry_in w (index_of s c)))) else over (index_of s p) (narrows w (map (index_of s) rest) (replicate (length rest) a)) None)
          ≡ (if same_place p c then Some (word_of (narrowed_by (if not f then no_rights else a) (entry_in w (index_of s p)))) else if any_of rest p then Some (word_of (narrowed_by a (entry_in w (index_of s p)))) else None)
      by (inl same) later = rw (sym same, eq-eqb (index_of s p) (index_of s p) refl, same_self p) refl
      by (inr apart) later =
          rw (apart, ne_eqb (index_of s c) (index_of s p) (λ same. cc (apart, ap (λ x. same_place x c) (sym (words_are_their_own s c p (places 0 c (omega arith)).place place (places 0 c (omega arith)).word same)), same_self c))) later

  -- what a word says that was written so
  unpacked : (mask : Rights) (p : Place) → IsPlace s p → entry_of (word_of (narrowed_by mask (entry_in w (index_of s p)))) ≡ narrowed_by mask (entry_at s p)
  unpacked mask p place =
      ap (λ o. entry_of (word_of (narrowed_by mask o))) (are.entries p place) ∙ (unpack_gives_back (narrowed_by mask (entry_at s p)) (narrowed_fits mask (entry_at s p) (entries_fit s p))).1

  -- the first page loses its rights where there is a flush
  first_loses : (o : Option Entry) → ((e : Entry) → o ≡ Some e → is_empty e.rights ≡ false) → narrowed_by (if not f then no_rights else a) o ≡ option_and_then (narrowed (f || not true) a) o
  first_loses o some = by f o some
    where
      by : (f : Bool) (o : Option Entry) → ((e : Entry) → o ≡ Some e → is_empty e.rights ≡ false) → narrowed_by (if not f then no_rights else a) o ≡ option_and_then (narrowed (f || not true) a) o
      by true o some = refl
      by false None some = refl
      by false (Some e) some = spared_stays a e (some e refl)

  -- what stands at a place after steps that write the same
  module _ (es : List Effect) (p : Place) (place : IsPlace s p) (same : written (index_of s p) es ≡ written (index_of s p) lost) where
    inside : any_of (c ∷ rest) p ≡ true → entry_of (word_after (slice_index w (index_of s p)) (index_of s p) es) ≡ walked true (f || not (same_place p c)) a (entry_at s p)
    inside among = ap (λ o. entry_of (unwrap_or o (bit_or (slice_index w (index_of s p)) (gained (index_of s p) es)))) (same ∙ written_at p place) ∙ by (same_or_apart p c)
      where
        any_flush : (f : Bool) → narrowed_by a (entry_at s p) ≡ option_and_then (narrowed (f || not false) a) (entry_at s p)
        any_flush true = refl
        any_flush false = refl

        by : (p ≡ c) ⊎ (same_place p c ≡ false)
            → entry_of (unwrap_or (if same_place p c then Some (word_of (narrowed_by (if not f then no_rights else a) (entry_in w (index_of s p)))) else if any_of rest p then Some (word_of (narrowed_by a (entry_in w (index_of s p)))) else None) (bit_or (slice_index w (index_of s p)) (gained (index_of s p) es)))
            ≡ option_and_then (narrowed (f || not (same_place p c)) a) (entry_at s p)
        by (inl is) =
            let here : same_place p c ≡ true = subst (λ x. same_place p x ≡ true) is (same_self p) in
            rw here (unpacked (if not f then no_rights else a) p place ∙ first_loses (entry_at s p) (λ e there. rights p e place there))
        by (inr apart) =
            let there : any_of rest p ≡ true = rw apart at among in
            rw (apart, there) (unpacked a p place ∙ any_flush f)

    outside : any_of (c ∷ rest) p ≡ false → word_after (slice_index w (index_of s p)) (index_of s p) es ≡ bit_or (slice_index w (index_of s p)) (gained (index_of s p) es)
    outside none = ap (λ o. unwrap_or o (bit_or (slice_index w (index_of s p)) (gained (index_of s p) es))) (same ∙ written_at p place ∙ by (same_place p c) (any_of rest p) none)
      where
        by : (x y : Bool) → (x || y) ≡ false
            → (if x then Some (word_of (narrowed_by (if not f then no_rights else a) (entry_in w (index_of s p)))) else if y then Some (word_of (narrowed_by a (entry_in w (index_of s p)))) else None) ≡ None
        by true y is = absurd (cc is)
        by false true is = absurd (cc is)
        by false false is = refl

  -- the strip, with a fold word or none
  module _ (k : StripContent) (its_indexes : k.indexes ≡ lost_at) (its_masks : k.masks ≡ lost_rights) (n : Shards) (with : IsWith s (worked w (piece.Strip k ∷ [])) n) where
    abbrev pub found : Rights
    found = status_in w lost_at

    abbrev after : List Effect
    after = lost ++ folding w k.fold found

    steps_are : effects w (piece.Strip k) ≡ after
    steps_are =
        strip_is w k ∙ ap (λ is. narrows w is k.masks ++ folding w k.fold (status_in w is)) its_indexes ∙ ap (λ ms. narrows w lost_at ms ++ folding w k.fold found) its_masks

    same_written : (i : ℕ) → written i after ≡ written i lost
    same_written i = written_over i after ∙ over_append i lost (folding w k.fold found) None ∙ ap (over i lost) (folds_write_nothing w i k.fold found None) ∙ sym (written_over i lost)

    gains : (i : ℕ) → gained i after ≡ gained i (folding w k.fold found)
    gains i = gained_append i lost (folding w k.fold found) ∙ ap (λ b. bit_or b (gained i (folding w k.fold found))) (narrows_gain_nothing w i lost_at lost_rights) ∙ or_zero_l (gained i (folding w k.fold found))

    entry_after : (p : Place) → IsThere s p → entry_at n p ≡ entry_of (word_after (slice_index w (index_of s p)) (index_of s p) after)
    entry_after p there =
        let i = index_of s p in
        sym (with.words.entries p (place_kept s n with.layout p there.place)) ∙ ap (λ j. entry_of (slice_index (worked w (piece.Strip k ∷ [])) j)) (with.layout.index p)
        ∙ ap (λ v. entry_of (slice_index v i)) (worked_all w (piece.Strip k ∷ []) ∙ ap (words_after w) (append-nil (effects w (piece.Strip k)) ∙ steps_are))
        ∙ ap entry_of (word_at 0 w after i (omega (arith, there.word, are.count)) ∙ ap (λ j. word_after (slice_index w i) j after) (zero-add i))

    -- the pages have lost
    pub lost_inside : (p : Place) → IsPlace s p → any_of (c ∷ rest) p ≡ true → entry_at n p ≡ walked true (f || not (same_place p c)) a (entry_at s p)
    lost_inside p place among = entry_after p (there_among (c ∷ rest) places p among) ∙ inside after p place (same_written (index_of s p)) among

    -- a page whose word is no fold word stays
    pub kept_outside : (p : Place) → IsPlace s p → any_of (c ∷ rest) p ≡ false → ((i : ℕ) → k.fold ≡ Some i → (i ≡ index_of s p → ⊥)) → entry_at n p ≡ entry_at s p
    kept_outside p place none apart =
        same_by_word s n with.layout p (λ has.
        entry_after p (record { place = place; word = has }) ∙ ap entry_of (outside after p place (same_written (index_of s p)) none ∙ ap (bit_or (slice_index w (index_of s p))) (gains (index_of s p) ∙ by k.fold apart) ∙ or_zero_r (slice_index w (index_of s p)))
        ∙ are.entries p place)
      where
        by : (fold : Option ℕ) → ((i : ℕ) → fold ≡ Some i → (i ≡ index_of s p → ⊥)) → gained (index_of s p) (folding w fold found) ≡ 0
        by None apart = refl
        by (Some i) apart = ap (λ b. bit_or (if b then status_bits found else 0) 0) (ne_eqb i (index_of s p) (apart i refl))

    -- the page of the fold word gains the status
    pub gained_outside : (p : Place) → IsPlace s p → any_of (c ∷ rest) p ≡ false → k.fold ≡ Some (index_of s p) → is_some (entry_at s p) ≡ true → entry_at n p ≡ option_map (with_status found) (entry_at s p)
    gained_outside p place none is is_held =
        let there = there_if_held s p place is_held in
        let word = slice_index w (index_of s p) in
        let gain : gained (index_of s p) after ≡ status_bits found =
        gains (index_of s p) ∙ ap (λ fold. gained (index_of s p) (folding w fold found)) is ∙ ap (λ b. bit_or (if b then status_bits found else 0) 0) (eq-eqb (index_of s p) (index_of s p) refl) ∙ or_zero_r (status_bits found) in
        entry_after p there ∙ ap entry_of (outside after p place (same_written (index_of s p)) none ∙ ap (bit_or word) gain)
        ∙ (pack_gains_status word found (are.packs (index_of s p) 0 (omega (arith, there.word, are.count))) (λ gone. cc (is_held, ap is_some (sym (are.entries p place)), ap (λ x. is_some (entry_of x)) gone))).2
        ∙ ap (option_map (with_status found)) (are.entries p place)
