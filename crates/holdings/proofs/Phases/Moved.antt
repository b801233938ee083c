-- Pairs worked as a move are the pages of a GrantItem moved.
use Rattle.std.proofs.Common.{◌≡◌, ℕ, zero, suc, ◌+◌, ◌<◌, ◌≤◌, true, false, Bool, ◌&&◌, not, List, [], ◌∷◌, length, drop, Option, Some, None, slice_index, get_or, unwrap_or, bit_or, refl, sym, ap, ◌∙◌, subst, arith, ◌⊎◌, inl, inr, if◌then◌else◌, zero-add}
use Rattle.std.specs.Prelude.{is_some, ◌==◌, ◌^◌, IsFalse}
use Rattle.std.proofs.lemmas.Option.{same_Some}
use Rattle.std.specs.List.{All, flat_map}
use Rattle.std.specs.Option.{option_map}
use Rattle.std.specs.Int.Bits.{or_zero_r}
use Rattle.std.proofs.lemmas.Bool.{and_parts, ne_eqb, eq-eqb}
use Rattle.std.proofs.lemmas.List.{append-nil, drop_more, drop_all}
use Rattle.space.specs.declared.place.Place.{Place}
use Rattle.space.specs.declared.place.Entry.{Entry}
use Rattle.space.specs.declared.shards.Shards.{Shards}
use Rattle.space.specs.Place.{same_place}
use Rattle.space.specs.Word.{word_of, entry_of, FrameFits}
use Rattle.space.specs.Directory.{pages_of}
use Rattle.space.specs.Shards.{IsPlace, HasWord, IsLaidOutAs, index_of, entry_at, is_taken}
use Rattle.holdings.specs.Places.{IsWithin}
use Rattle.holdings.proofs.Contents.Holders.{place_within}
use Rattle.model.proofs.Renames.{moved_cases}
use Rattle.space.proofs.Places.{same_self, apart_back}
use Rattle.space.proofs.ShardWords.{held_have_words, words_are_their_own, entries_fit}
use Rattle.space.proofs.Words.{unpack_gives_back}
use Rattle.maptree.specs.Origins.{Shape}
use Rattle.model.specs.Definitions.Calls.{Limits}
use Rattle.model.specs.Definitions.Holdings.{Holdings, at}
use Rattle.model.specs.Definitions.Grant.{renamed, moved_to}
use Rattle.model.specs.Definitions.Items.{sources_of}
use Rattle.model.specs.Laws.SendLaws.{In}
use Rattle.pieces.specs.Contents.{ends_of}
use Rattle.pieces.specs.Distinct.{is_none_of, are_distinct}
use Rattle.pieces.specs.Effects.{word_after}
use Rattle.pieces.specs.Phases.{CanBeWorked, IsPiece, changes}
use Rattle.pieces.specs.Steps.{entry_in, effects, without_status}
use Rattle.pieces.specs.Applied.{worked}
use Rattle.pieces.specs.declared.moving.Pair.{Pair}
use Rattle.pieces.specs.declared.piece.Piece.TheVariants as piece
use Rattle.pieces.proofs.AllSteps.{length_words, word_at, worked_all, words_none}
use Rattle.pieces.proofs.OneByOne.{one_after_another, others_can, all_held_apart, changes_apart, folds_of_others_apart}
use Rattle.holdings.specs.declared.transfer.Transfer.{Transfer}
use Rattle.holdings.specs.Sending.{ArePlanned, AllGo, moving_of}
use Rattle.holdings.specs.Inner.Held.{limits_in, holdings_in, has_entry}
use Rattle.holdings.specs.Inner.Links.{links_of, last_target}
use Rattle.holdings.specs.Inner.Renamings.{AreRenamed, IsPageMoved}
use Rattle.holdings.specs.Inner.Planning.{word_pair, word_pairs}
use Rattle.holdings.specs.Inner.Sound.{AreSound}
use Rattle.holdings.proofs.Contents.WordChanges.{place_kept, word_kept, same_by_word}
use Rattle.holdings.proofs.Links.LinkedTrees.{no_transfer}
use Rattle.holdings.proofs.Renamings.MovedPages.{AreWordsMoved}
use Rattle.holdings.proofs.Renamings.MovingWords.{AreMoving, none_moved, ends_apart, source_place, target_place, source_lost, source_stood, step, all_moved}
use Rattle.holdings.proofs.Renamings.MovingTrees.{pairs_within, all_left, all_sound, same_limits}
use Rattle.holdings.proofs.Stripping.Walks.{same_layouts}
use Rattle.holdings.specs.Inner.Words.{AreWordsOf, IsThere, IsWith}
use Rattle.holdings.proofs.Phases.Words.{with_words}

-- ---- one pair

module _ (s : Shards) (w : List ℕ) (are : AreWordsOf s w) (t : Transfer) (source : IsPlace s t.source) (target : IsThere s t.target) (ends : same_place t.source t.target ≡ false) (e : Entry) (is : entry_at s t.source ≡ Some e)
    (n : Shards) (with : IsWith s (worked w (piece.Move (word_pair s t ∷ []) ∷ [])) n) where
  -- what is put
  abbrev put_word : ℕ
  put_word = word_of (option_map without_status (entry_in w (index_of s t.source)))

  -- what is written at an index
  abbrev written_there : ℕ → Option ℕ
  written_there i = if index_of s t.source == i then Some 0 else if index_of s t.target == i then Some put_word else None

  entry_after : (q : Place) → IsPlace s q → HasWord s q → entry_at n q ≡ entry_of (unwrap_or (written_there (index_of s q)) (bit_or (slice_index w (index_of s q)) 0))
  entry_after q place has =
      let i = index_of s q in
      let ps = piece.Move (word_pair s t ∷ []) ∷ [] in
      sym (with.words.entries q (place_kept s n with.layout q place)) ∙ ap (λ j. entry_of (slice_index (worked w ps) j)) (with.layout.index q)
      ∙ ap (λ v. entry_of (slice_index v i)) (worked_all w ps)
      ∙ ap entry_of (word_at 0 w (flat_map (effects w) ps) i (omega (arith, has, are.count)) ∙ ap (λ j. word_after (slice_index w i) j (flat_map (effects w) ps)) (zero-add i))

  source_word : HasWord s t.source
  source_word = held_have_words s t.source e is

  apart_words : (p q : Place) → IsPlace s p → HasWord s p → IsPlace s q → same_place p q ≡ false → (index_of s p == index_of s q) ≡ false
  apart_words p q p_in p_has q_in apart = ne_eqb (index_of s p) (index_of s q) (λ same. cc (apart, ap (λ x. same_place x q) (words_are_their_own s p q p_in q_in p_has same), same_self q))

  moved_fits : FrameFits (Some (without_status e))
  moved_fits = λ k same. let fits : e.frame < 2 ^ 24 = entries_fit s t.source e is in subst (λ f. f < 2 ^ 24) (cc same) fits

  pub page_of_pair : IsPageMoved s n t.source t.target e
  page_of_pair = record {
    gone = entry_after t.source source source_word
        ∙ ap (λ b. entry_of (unwrap_or (if b then Some 0 else if index_of s t.target == index_of s t.source then Some put_word else None) (bit_or (slice_index w (index_of s t.source)) 0))) (eq-eqb (index_of s t.source) (index_of s t.source) refl);
    there = entry_after t.target target.place target.word
        ∙ ap (λ b. entry_of (unwrap_or (if b then Some 0 else if index_of s t.target == index_of s t.target then Some put_word else None) (bit_or (slice_index w (index_of s t.target)) 0))) (apart_words t.source t.target source source_word target.place ends)
        ∙ ap (λ b. entry_of (unwrap_or (if b then Some put_word else None) (bit_or (slice_index w (index_of s t.target)) 0))) (eq-eqb (index_of s t.target) (index_of s t.target) refl)
        ∙ ap (λ o. entry_of (word_of (option_map without_status o))) (are.entries t.source source ∙ is) ∙ (unpack_gives_back (Some (without_status e)) moved_fits).1;
    elsewhere = λ q place not_source not_target. same_by_word s n with.layout q (λ has.
        entry_after q place has
        ∙ ap (λ b. entry_of (unwrap_or (if b then Some 0 else if index_of s t.target == index_of s q then Some put_word else None) (bit_or (slice_index w (index_of s q)) 0))) (apart_words t.source q source source_word place (apart_back q t.source not_source))
        ∙ ap (λ b. entry_of (unwrap_or (if b then Some put_word else None) (bit_or (slice_index w (index_of s q)) 0))) (apart_words t.target q target.place target.word place (apart_back q t.target not_target))
        ∙ ap entry_of (or_zero_r (slice_index w (index_of s q))) ∙ are.entries q place);
    present = with.present;
    layout = with.layout;
  }

-- ---- all pairs

-- a first pair, and then the others, can be worked where all can
one_and_others : (w : List ℕ) (x : Pair) (xs : List Pair) → CanBeWorked w (piece.Move (x ∷ xs) ∷ []) → CanBeWorked w (piece.Move (x ∷ []) ∷ piece.Move xs ∷ [])
one_and_others w x xs can = record {
  some = can.some;
  packs = can.packs;
  within = can.within;
  entries = can.entries;
  distinct = can.distinct;
  apart = refl;
  alike = refl;
}

-- and they are worked one after the other
worked_in_turn : (w : List ℕ) (x : Pair) (xs : List Pair) → worked w (piece.Move (x ∷ xs) ∷ []) ≡ worked w (piece.Move (x ∷ []) ∷ piece.Move xs ∷ [])
worked_in_turn w x xs = worked_all w (piece.Move (x ∷ xs) ∷ []) ∙ sym (worked_all w (piece.Move (x ∷ []) ∷ piece.Move xs ∷ []))

each_move : (x : Pair) (xs : List Pair) → are_distinct (ends_of (x ∷ xs)) ≡ true → All IsPiece (piece.Move (x ∷ []) ∷ piece.Move xs ∷ [])
each_move x xs once zero d less =
    let first = and_parts (is_none_of (x.put ∷ ends_of xs) x.taken) (are_distinct (x.put ∷ ends_of xs)) once in
    let one = and_parts (not (x.put == x.taken)) (is_none_of (ends_of xs) x.taken) first.0 in
    ap (λ b. (b && true) && true) one.0
each_move x xs once (suc zero) d less =
    let first = and_parts (is_none_of (x.put ∷ ends_of xs) x.taken) (are_distinct (x.put ∷ ends_of xs)) once in
    (and_parts (is_none_of (ends_of xs) x.put) (are_distinct (ends_of xs)) first.1).1
each_move x xs once (suc (suc k)) d less = absurd (omega (arith, less))

pairs_more : (s : Shards) (t : Transfer) (ts : List Transfer) (b : Bool) → has_entry s t.source ≡ b → word_pairs s (t ∷ ts) ≡ (if b then word_pair s t ∷ word_pairs s ts else word_pairs s ts)
pairs_more s t ts b is = ap (λ c. if c then word_pair s t ∷ word_pairs s ts else word_pairs s ts) is

same_pair : (s n : Shards) → ((p : Place) → index_of n p ≡ index_of s p) → (t : Transfer) → word_pair n t ≡ word_pair s t
same_pair s n same t = λ i. record { taken = same t.source i; put = same t.target i }

module _ (first : Shards) (trees : List Shape) (sound : AreSound first trees) (ts : List Transfer) (planned : ArePlanned (limits_in first trees) ts) (all_go : AllGo ts) (free : All (λ t. at (holdings_in first trees) t.target ≡ None) ts) (targets : All (λ t. HasWord first t.target) ts) where
  abbrev h : Holdings
  h = holdings_in first trees

  abbrev limits : Limits
  limits = limits_in first trees

  -- the page at a position
  abbrev page_at : ℕ → Transfer
  page_at i = get_or ts i no_transfer

  module _ (i : ℕ) (within : i < length ts) (now : Shards) (so_far : AreMoving limits h first ts i now) where
    -- its source holds something now where it did at the start
    still_gone : has_entry first (page_at i).source ≡ false → entry_at now (page_at i).source ≡ None
    still_gone gone = by (entry_at now (page_at i).source) refl
      where
        by : (o : Option Entry) → entry_at now (page_at i).source ≡ o → entry_at now (page_at i).source ≡ None
        by None is = is
        by (Some e) is = absurd (cc (gone, ap is_some (source_stood limits first trees sound ts planned all_go free i no_transfer within now so_far e is)))

    still_there : has_entry first (page_at i).source ≡ true → (e : Entry) × (entry_at now (page_at i).source ≡ Some e)
    still_there held = by (entry_at now (page_at i).source) refl
      where
        by : (o : Option Entry) → entry_at now (page_at i).source ≡ o → (e : Entry) × (entry_at now (page_at i).source ≡ Some e)
        by None is = absurd (cc (held, ap is_some (source_lost limits first trees sound ts planned all_go free i no_transfer within now so_far is)))
        by (Some e) is = (e, is)

  -- no page more: the words are as they were
  no_more : (now : Shards) (w : List ℕ) → AreWordsOf now w → (new : Shards) → IsWith now (worked w (piece.Move [] ∷ [])) new → (p : Place) → IsPlace now p → entry_at new p ≡ entry_at now p
  no_more now w are new with p place =
      sym (with.words.entries p (place_kept now new with.layout p place)) ∙ ap (λ v. entry_of (slice_index v (index_of new p))) (worked_all w (piece.Move [] ∷ []) ∙ words_none 0 w)
      ∙ ap (λ i. entry_of (slice_index w i)) (with.layout.index p) ∙ are.entries p place

  -- words that moved, by other shards with the same entries
  moved_still : (now new : Shards) → AreWordsMoved limits (moving_of h ts) first now → IsFalse (is_taken new) → IsLaidOutAs now new → ((p : Place) → IsPlace now p → entry_at new p ≡ entry_at now p) → AreWordsMoved limits (moving_of h ts) first new
  moved_still now new words present layout same = record {
    present = present;
    spaces = layout.spaces ∙ words.spaces;
    bits = layout.bits ∙ words.bits;
    count = layout.count ∙ words.count;
    forth = λ p e p_in is. same (moved_to (moving_of h ts) p) (place_now (moved_to (moving_of h ts) p) (goes_within p p_in (moved_cases (moving_of h ts) p))) ∙ words.forth p e p_in is;
    back = λ q x q_in is. words.back q x q_in (sym (same q (place_now q q_in)) ∙ is);
  }
    where
      place_now : (p : Place) → IsWithin limits p → IsPlace now p
      place_now p p_in =
          let place = place_within limits first trees sound.kept.fits p p_in in
          record { space = subst (λ n. p.space < n) (sym words.spaces) place.space; page = subst (λ b. p.page < pages_of b) (sym words.bits) place.page }

      goes_within : (p : Place) → IsWithin limits p → ((e : Place × Place) × In e (moving_of h ts) × (e.0 ≡ p) × (moved_to (moving_of h ts) p ≡ e.1)) ⊎ ((sources_of (moving_of h ts) p ≡ false) × (moved_to (moving_of h ts) p ≡ p)) → IsWithin limits (moved_to (moving_of h ts) p)
      goes_within p p_in (inl (e, k, _, to)) = subst (IsWithin limits) (sym to) (pairs_within limits first trees sound ts planned all_go free e k)
      goes_within p p_in (inr (_, stays)) = subst (IsWithin limits) (sym stays) p_in

  -- the pages from one on
  rest_moved : (n i : ℕ) → i + n ≡ length ts → (now : Shards) → AreMoving limits h first ts i now → IsLaidOutAs first now → (w : List ℕ) → AreWordsOf now w
      → CanBeWorked w (piece.Move (word_pairs first (drop i ts)) ∷ []) → (new : Shards) → IsWith now (worked w (piece.Move (word_pairs first (drop i ts)) ∷ [])) new → AreWordsMoved limits (moving_of h ts) first new
  rest_moved zero i whole now so_far layout w are can new with =
      let past : length ts ≤ i = omega (arith, whole) in
      let none = drop_all i ts past in
      let with_none = subst (λ us. IsWith now (worked w (piece.Move (word_pairs first us) ∷ [])) new) none with in
      moved_still now new (all_moved limits h first ts i now past so_far).0 with.present with.layout (no_more now w are new with_none)
  rest_moved (suc n) i whole now so_far layout w are can new with = by (has_entry first (get_or ts i no_transfer).source) refl (rest_moved n)
    where
      within : i < length ts
      within = omega (arith, whole)

      pairs_are : (b : Bool) → has_entry first (page_at i).source ≡ b → word_pairs first (drop i ts) ≡ (if b then word_pair first (page_at i) ∷ word_pairs first (drop (i + 1) ts) else word_pairs first (drop (i + 1) ts))
      pairs_are b is = ap (word_pairs first) (drop_more ts i no_transfer within) ∙ pairs_more first (page_at i) (drop (i + 1) ts) b is

      by : (b : Bool) → has_entry first (page_at i).source ≡ b
          → ((i : ℕ) → i + n ≡ length ts → (now : Shards) → AreMoving limits h first ts i now → IsLaidOutAs first now → (w : List ℕ) → AreWordsOf now w
          → CanBeWorked w (piece.Move (word_pairs first (drop i ts)) ∷ []) → (new : Shards) → IsWith now (worked w (piece.Move (word_pairs first (drop i ts)) ∷ [])) new → AreWordsMoved limits (moving_of h ts) first new)
          → AreWordsMoved limits (moving_of h ts) first new
      by false gone go =
          let none = still_gone i within now so_far gone in
          go (i + 1) (omega (arith, whole)) now
          (step limits first trees sound ts planned all_go free i no_transfer within now so_far now (λ _. refl) (λ e is. absurd (cc (none, is))))
          layout w are (subst (λ xs. CanBeWorked w (piece.Move xs ∷ [])) (pairs_are false gone) can) new (subst (λ xs. IsWith now (worked w (piece.Move xs ∷ [])) new) (pairs_are false gone) with)
      by true held go =
          let e = still_there i within now so_far held in
          let x = word_pair first (page_at i) in
          let xs = word_pairs first (drop (i + 1) ts) in
          let ps = piece.Move (x ∷ []) ∷ [] in
          let qs = piece.Move xs ∷ [] in
          let can_both = one_and_others w x xs (subst (λ ys. CanBeWorked w (piece.Move ys ∷ [])) (pairs_are true held) can) in
          let once : are_distinct (ends_of (x ∷ xs)) ≡ true = ap are_distinct (sym (append-nil (ends_of (x ∷ xs)))) ∙ can_both.distinct in
          let each = each_move x xs once in
          let spared = all_held_apart (flat_map changes ps) qs refl (changes_apart w ps qs can_both) (folds_of_others_apart w ps qs can_both) in
          let can_rest = others_can w ps qs each can_both spared in
          let middle = with_words now so_far.words.present (worked w ps) (ap length (worked_all w ps) ∙ length_words 0 w (flat_map (effects w) ps) ∙ are.count) can_rest.packs in
          let moved = page_of_pair now w are (page_at i) (source_place limits first trees sound ts planned all_go free i no_transfer within now so_far) (record { place = target_place limits first trees sound ts planned all_go free i no_transfer within now so_far; word = word_kept first now layout (page_at i).target (targets i no_transfer within) })
          (ends_apart limits first trees sound ts planned all_go free i no_transfer within now so_far) e.0 e.1 middle.0
          (subst (λ y. IsWith now (worked w (piece.Move (y ∷ []) ∷ [])) middle.0) (sym (same_pair first now layout.index (page_at i))) middle.1) in
          go (i + 1) (omega (arith, whole)) middle.0
          (step limits first trees sound ts planned all_go free i no_transfer within now so_far middle.0 (λ none. absurd (cc (none, e.1)))
          (λ k k_is. subst (λ y. IsPageMoved now middle.0 (page_at i).source (page_at i).target y) (same_Some e.0 k (sym e.1 ∙ k_is)) moved))
          (same_layouts first now middle.0 layout middle.1.layout) (worked w ps) middle.1.words can_rest new
          (record {
            words = subst (AreWordsOf new) (ap (λ ys. worked w (piece.Move ys ∷ [])) (pairs_are true held) ∙ worked_in_turn w x xs ∙ one_after_another w ps qs each can_both spared) with.words;
            present = with.present;
            layout = record { spaces = with.layout.spaces ∙ sym middle.1.layout.spaces; bits = with.layout.bits ∙ sym middle.1.layout.bits; count = with.layout.count ∙ sym middle.1.layout.count; index = λ p. with.layout.index p ∙ sym (middle.1.layout.index p) };
          })

  -- the pairs of an item, worked, and its trees with the new places, are the item moved
  pub record AreAllMoved (new : Shards) (after : List Shape) : Type 0 where
    pub left : holdings_in new after ≡ renamed (moving_of h ts) h
    pub is_sound : AreSound new after
    pub limits_stay : limits_in new after ≡ limits

  pub pairs_moved : (w : List ℕ) → AreWordsOf first w → CanBeWorked w (piece.Move (word_pairs first ts) ∷ []) → (new : Shards) → IsWith first (worked w (piece.Move (word_pairs first ts) ∷ [])) new
      → (after : List Shape) → AreRenamed (λ p. last_target (links_of first ts) p None) (links_of first ts) trees after → AreAllMoved new after
  pairs_moved w are can new with after trees_moved =
      let words = rest_moved (length ts) 0 (zero-add (length ts)) first (none_moved limits first trees sound ts planned all_go free) (record { spaces = refl; bits = refl; count = refl; index = λ p. refl }) w are can new with in
      record {
        left = all_left first trees sound ts planned all_go free new after (links_of first ts) refl trees_moved words;
        is_sound = all_sound first trees sound ts planned all_go free new after (links_of first ts) refl trees_moved words;
        limits_stay = same_limits first trees sound ts planned all_go free new after (links_of first ts) refl trees_moved words;
      }
