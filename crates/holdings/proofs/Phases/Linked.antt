-- Stores worked as a link are the pages of a MapItem mapped one after another.
use Rattle.std.proofs.Common.{◌≡◌, ℕ, zero, suc, ◌+◌, ◌<◌, ◌≤◌, true, false, Bool, ◌&&◌, not, List, [], ◌∷◌, length, drop, map, Option, Some, None, slice_index, get_or, refl, sym, ap, ◌∙◌, subst, arith, if◌then◌else◌, zero-add}
use Rattle.std.specs.Prelude.{is_some, ◌==◌, ◌^◌, unwrap_or, bit_or}
use Rattle.pieces.specs.Effects.{gained}
use Rattle.std.specs.List.{All, list_all, flat_map}
use Rattle.std.specs.Option.{option_map}
use Rattle.std.specs.Int.Bits.{or_zero_r}
use Rattle.std.proofs.lemmas.Bool.{and_parts, and_from, ne_eqb, eq-eqb}
use Rattle.std.proofs.lemmas.List.{append-nil, drop_more, drop_all}
use Rattle.fpage.specs.Rights.{meet, join}
use Rattle.fpage.specs.declared.rights.Rights.{Rights}
use Rattle.space.specs.declared.place.Place.{Place}
use Rattle.space.specs.declared.place.Entry.{Entry}
use Rattle.space.specs.declared.shards.Shards.{Shards}
use Rattle.space.specs.Word.{word_of, entry_of, FrameFits}
use Rattle.space.specs.Shards.{IsPlace, HasWord, IsLaidOutAs, index_of, entry_at}
use Rattle.space.proofs.ShardWords.{words_are_their_own, entries_fit}
use Rattle.space.proofs.Words.{unpack_gives_back}
use Rattle.maptree.specs.Origins.{Shape}
use Rattle.model.specs.Definitions.Holdings.{Held, Holdings}
use Rattle.model.proofs.LawfulParts.{lawful_parts}
use Rattle.pieces.specs.Contents.{puts_of}
use Rattle.pieces.specs.Distinct.{is_none_of, are_distinct}
use Rattle.pieces.specs.Effects.{writes, word_after}
use Rattle.pieces.specs.Phases.{CanBeWorked, IsPiece, held}
use Rattle.pieces.specs.Steps.{entry_in, effects, linked}
use Rattle.pieces.specs.Applied.{worked}
use Rattle.pieces.specs.Laws.{spare_held}
use Rattle.pieces.specs.declared.link.Store.{Store}
use Rattle.pieces.specs.declared.piece.Piece.TheVariants as piece
use Rattle.pieces.proofs.AllSteps.{length_words, word_at, worked_all, words_none}
use Rattle.pieces.proofs.OneByOne.{one_after_another, others_can}
use Rattle.holdings.specs.declared.transfer.Transfer.{Transfer}
use Rattle.holdings.specs.Sending.{ArePlanned, ArePaired, IsReady, IsTransferWithin, map_transfers}
use Rattle.holdings.specs.Inner.Held.{limits_in, holdings_in, holdings_of, has_entry, held_of}
use Rattle.holdings.specs.Inner.Links.{AreLinked, links_of, IsPageMapped}
use Rattle.holdings.specs.Inner.Links as page
use Rattle.holdings.specs.Inner.Planning.{store_of, stores_of}
use Rattle.holdings.specs.Inner.Sound.{IsSound, AreSound}
use Rattle.std.proofs.lemmas.List.Elements.{All-drop}
use Rattle.holdings.proofs.Contents.Holders.{present_within}
use Rattle.holdings.proofs.Contents.WordChanges.{place_kept, word_kept, same_by_word}
use Rattle.holdings.proofs.Links.LinkedTrees.{no_transfer}
use Rattle.holdings.proofs.Maps.MapAll.{sources_in}
use Rattle.holdings.proofs.Maps.MapWords.{AreAhead, one_page, none_ahead, all_left, all_sound, all_limits, stood_first, ready_here, source_within, target_within, source_place, target_place}
use Rattle.holdings.proofs.Links.NewMappings.{word_free}
use Rattle.holdings.proofs.Trees.Chains.{entry_held}
use Rattle.holdings.proofs.Stripping.Frames.{loose_from}
use Rattle.std.proofs.lemmas.Option.{same_Some}
use Rattle.holdings.proofs.Stripping.Walks.{same_layouts}
use Rattle.holdings.specs.Inner.Words.{AreWordsOf, IsThere, IsWith}
use Rattle.holdings.proofs.Phases.Words.{with_words, same_holdings, same_sound}
use Rattle.model.specs.Definitions.Calls.{Limits}
use Rattle.fpage.specs.declared.item.ItemKind.TheVariants.{Map}

-- ---- one store

module _ (s : Shards) (w : List ℕ) (are : AreWordsOf s w) (rights : Rights) (t : Transfer) (source : IsPlace s t.source) (target : IsThere s t.target) (e : Entry) (is : entry_at s t.source ≡ Some e)
    (n : Shards) (with : IsWith s (worked w (piece.Link (store_of s rights t ∷ []) ∷ [])) n) where
  -- what is put
  abbrev put_word : ℕ
  put_word = word_of (option_map (linked rights (entry_in w (index_of s t.target))) (entry_in w (index_of s t.source)))

  entry_after : (q : Place) → IsPlace s q → HasWord s q → entry_at n q ≡ entry_of (word_after (slice_index w (index_of s q)) (index_of s q) (writes (index_of s t.target) put_word ∷ []))
  entry_after q place has =
      let i = index_of s q in
      let ps = piece.Link (store_of s rights t ∷ []) ∷ [] in
      sym (with.words.entries q (place_kept s n with.layout q place)) ∙ ap (λ j. entry_of (slice_index (worked w ps) j)) (with.layout.index q)
      ∙ ap (λ v. entry_of (slice_index v i)) (worked_all w ps)
      ∙ ap entry_of (word_at 0 w (flat_map (effects w) ps) i (omega (arith, has, are.count)) ∙ ap (λ j. word_after (slice_index w i) j (flat_map (effects w) ps)) (zero-add i))

  linked_fits : (o : Option Entry) → FrameFits (Some (linked rights o e))
  linked_fits o = λ k same. by o same
    where
      fits : e.frame < 2 ^ 24
      fits = entries_fit s t.source e is

      by : (o : Option Entry) {k : Entry} → Some (linked rights o e) ≡ Some k → k.frame < 2 ^ 24
      by None same = subst (λ f. f < 2 ^ 24) (cc same) fits
      by (Some x) same = subst (λ f. f < 2 ^ 24) (cc same) fits

  -- it stands at the target
  pub stored_there : entry_at n t.target ≡ Some (linked rights (entry_at s t.target) e)
  stored_there =
      entry_after t.target target.place target.word
      ∙ ap (λ b. entry_of (unwrap_or (if b then Some put_word else None) (bit_or (slice_index w (index_of s t.target)) (gained (index_of s t.target) (writes (index_of s t.target) put_word ∷ []))))) (eq-eqb (index_of s t.target) (index_of s t.target) refl)
      ∙ ap (λ o. entry_of (word_of (option_map (linked rights o) (entry_in w (index_of s t.source))))) (are.entries t.target target.place)
      ∙ ap (λ o. entry_of (word_of (option_map (linked rights (entry_at s t.target)) o))) (are.entries t.source source ∙ is)
      ∙ (unpack_gives_back (Some (linked rights (entry_at s t.target) e)) (linked_fits (entry_at s t.target))).1

  -- and nothing else changes
  pub stored_elsewhere : (q : Place) → IsPlace s q → (q ≡ t.target → ⊥) → entry_at n q ≡ entry_at s q
  stored_elsewhere q place apart = same_by_word s n with.layout q (λ has.
      entry_after q place has
      ∙ ap (λ b. entry_of (unwrap_or (if b then Some put_word else None) (bit_or (slice_index w (index_of s q)) 0))) (ne_eqb (index_of s t.target) (index_of s q) (λ same. apart (sym (words_are_their_own s t.target q target.place place target.word same))))
      ∙ ap entry_of (or_zero_r (slice_index w (index_of s q))) ∙ are.entries q place)

  -- the page is mapped
  pub page_stored : (t.extends ≡ false → entry_at s t.target ≡ None) → (t.extends ≡ true → (k : Entry) × (entry_at s t.target ≡ Some k) × (k.frame ≡ e.frame)) → IsPageMapped s n rights t e
  page_stored free wider = record {
    set = record { there = stored_there ∙ by t.extends refl; elsewhere = stored_elsewhere };
    present = with.present;
    layout = with.layout;
  }
    where
      by : (b : Bool) → t.extends ≡ b → Some (linked rights (entry_at s t.target) e) ≡ page.word_after rights t e (entry_at s t.target)
      by false going = rw (going, free going) refl
      by true extending =
          let k = wider extending in
          rw (extending, k.1) (ap (λ f. Some (record { frame = f; rights = join k.0.rights (meet e.rights rights); status = k.0.status })) (sym k.2))

-- ---- all stores

-- a first store, and then the others, can be worked where all can
one_and_others : (w : List ℕ) (x : Store) (xs : List Store) → CanBeWorked w (piece.Link (x ∷ xs) ∷ []) → CanBeWorked w (piece.Link (x ∷ []) ∷ piece.Link xs ∷ [])
one_and_others w x xs can = record {
  some = can.some;
  packs = can.packs;
  within = can.within;
  entries = can.entries;
  distinct = can.distinct;
  apart = refl;
  alike = refl;
}

-- and they are worked one after the other
worked_in_turn : (w : List ℕ) (x : Store) (xs : List Store) → worked w (piece.Link (x ∷ xs) ∷ []) ≡ worked w (piece.Link (x ∷ []) ∷ piece.Link xs ∷ [])
worked_in_turn w x xs = worked_all w (piece.Link (x ∷ xs) ∷ []) ∙ sym (worked_all w (piece.Link (x ∷ []) ∷ piece.Link xs ∷ []))

each_link : (x : Store) (xs : List Store) → are_distinct (puts_of (x ∷ xs)) ≡ true → All IsPiece (piece.Link (x ∷ []) ∷ piece.Link xs ∷ [])
each_link x xs once zero d less = refl
each_link x xs once (suc zero) d less = (and_parts (is_none_of (puts_of xs) x.put) (are_distinct (puts_of xs)) once).1
each_link x xs once (suc (suc k)) d less = absurd (omega (arith, less))

-- pages of other spaces have other words
module _ (s : Shards) (p : Place) (place : IsThere s p) (rights : Rights) where
  reads_apart : (from : ℕ) → (from ≡ p.space → ⊥) → (us : List Transfer) → All (λ u. u.source.space ≡ from) us → All (λ u. IsPlace s u.source) us
      → list_all (is_none_of (index_of s p ∷ [])) (map (λ x. x.read) (stores_of s rights us)) ≡ true
  reads_apart from differ [] spaces places = refl
  reads_apart from differ (u ∷ us) spaces places =
      by (has_entry s u.source) (reads_apart from differ us (λ k d less. spaces (suc k) d (omega (arith, less))) (λ k d less. places (suc k) d (omega (arith, less))))
    where
      other : (index_of s p == index_of s u.source) ≡ false
      other = ne_eqb (index_of s p) (index_of s u.source) (λ same.
          differ (sym (spaces 0 u (omega arith)) ∙ sym (ap (λ q. q.space) (words_are_their_own s p u.source place.place (places 0 u (omega arith)) place.word same))))

      by : (b : Bool) → list_all (is_none_of (index_of s p ∷ [])) (map (λ x. x.read) (stores_of s rights us)) ≡ true
          → list_all (is_none_of (index_of s p ∷ [])) (map (λ x. x.read) (if b then store_of s rights u ∷ stores_of s rights us else stores_of s rights us)) ≡ true
      by false rest = rest
      by true rest = and_from _ _ (ap (λ c. not c && true) other) rest

-- the stores of a list, by its first transfer
stores_more : (s : Shards) (rights : Rights) (t : Transfer) (ts : List Transfer) (b : Bool) → has_entry s t.source ≡ b → stores_of s rights (t ∷ ts) ≡ (if b then store_of s rights t ∷ stores_of s rights ts else stores_of s rights ts)
stores_more s rights t ts b is = ap (λ c. if c then store_of s rights t ∷ stores_of s rights ts else stores_of s rights ts) is

-- the same by shards that are laid out in one way
same_store : (s n : Shards) → ((p : Place) → index_of n p ≡ index_of s p) → (rights : Rights) (t : Transfer) → store_of n rights t ≡ store_of s rights t
same_store s n same rights t = λ i. record { read = same t.source i; put = same t.target i; rights = rights }

module _ (first : Shards) (trees : List Shape) (sound : AreSound first trees) (rights : Rights) (ts : List Transfer) (planned : ArePlanned (limits_in first trees) ts) (ready : All (IsReady (holdings_in first trees) rights) ts) (targets : All (λ t. HasWord first t.target) ts) (ahead : List Shape) where
  abbrev h : Holdings
  h = holdings_in first trees

  abbrev limits : Limits
  limits = limits_in first trees

  -- what is left when all are mapped
  pub record AreAllMapped (new : Shards) : Type 0 where
    pub left : holdings_in new ahead ≡ map_transfers h (record { kind = Map; rights = rights; pairs = [] }) ts h
    pub is_sound : AreSound new ahead
    pub same_limits : limits_in new ahead ≡ limits

  module _ (i : ℕ) (within : i < length ts) (now : Shards) (so_far : AreAhead first limits h rights ts i now ahead) (layout : IsLaidOutAs first now) where
    abbrev t : Transfer
    t = get_or ts i no_transfer

    -- its source holds what it held
    stood : entry_at first t.source ≡ entry_at now t.source
    stood = stood_first first trees rights ts i within now ahead planned ready so_far

    -- a page whose source is not held is lost
    lost_here : entry_at now t.source ≡ None → AreAhead first limits h rights ts (i + 1) now ahead
    lost_here none = one_page first trees rights ts i within now ahead planned ready so_far now (λ _. refl) (λ e is. absurd (cc (none, is)))

    -- what the target of a page holds whose source is held
    free_here : t.extends ≡ false → entry_at now t.target ≡ None
    free_here going = word_free (limits_in now so_far.trees) now so_far.trees t.target (target_within first trees rights ts i within now ahead planned ready so_far)
        (ap is_some ((ready_here first trees rights ts i within now ahead planned ready so_far).free going))

    wider_here : (e : Entry) → entry_at now t.source ≡ Some e → t.extends ≡ true → (k : Entry) × (entry_at now t.target ≡ Some k) × (k.frame ≡ e.frame)
    wider_here e is extending =
        let here = holdings_in now so_far.trees in
        let source = source_within first trees rights ts i within now ahead planned ready so_far in
        let m = present_within (limits_in now so_far.trees) now so_far.trees t.source source e is in
        let d = (ready_here first trees rights ts i within now ahead planned ready so_far).derived (held_of so_far.trees t.source e) extending m in
        let target = entry_held now so_far.trees (loose_from now so_far.trees so_far.are.sound) t.target d.0 d.1 in
        let origin = (lawful_parts here so_far.are.sound.kept.lawful).origin t.target t.source d.0 d.1 d.2 in
        let same : origin.held ≡ held_of so_far.trees t.source e = same_Some origin.held (held_of so_far.trees t.source e) (sym origin.is ∙ m) in
        (target.1.0, target.1.1, sym (ap (λ (x : Held). x.frame) target.1.2) ∙ origin.frame ∙ ap (λ (x : Held). x.frame) same)

    -- a page whose source is held is mapped
    mapped_here : (e : Entry) → entry_at now t.source ≡ Some e → (w : List ℕ) → AreWordsOf now w → (next : Shards) → IsWith now (worked w (piece.Link (store_of first rights t ∷ []) ∷ [])) next
        → AreAhead first limits h rights ts (i + 1) next ahead
    mapped_here e is w are next with =
        one_page first trees rights ts i within now ahead planned ready so_far next (λ none. absurd (cc (none, is)))
        (λ k k_is. subst (λ x. IsPageMapped now next rights t x) (same_Some e k (sym is ∙ k_is))
        (page_stored now w are rights t (source_place first trees rights ts i within now ahead planned ready so_far) (record { place = target_place first trees rights ts i within now ahead planned ready so_far; word = word_kept first now layout t.target (targets i no_transfer within) }) e is next
        (subst (λ x. IsWith now (worked w (piece.Link (x ∷ []) ∷ [])) next) (sym (same_store first now layout.index rights t)) with) free_here (wider_here e is)))

  -- the page at a position
  abbrev page_at : ℕ → Transfer
  page_at i = get_or ts i no_transfer

  nothing_there : (o : Option Entry) → is_some o ≡ false → o ≡ None
  nothing_there None gone = refl
  nothing_there (Some e) gone = absurd (cc gone)

  something_there : (o : Option Entry) → is_some o ≡ true → (e : Entry) × (o ≡ Some e)
  something_there None there = absurd (cc there)
  something_there (Some e) there = (e, refl)

  -- no page more: the words are as they were
  no_more : (now : Shards) (w : List ℕ) → AreWordsOf now w → (new : Shards) → IsWith now (worked w (piece.Link [] ∷ [])) new → (p : Place) → IsPlace now p → entry_at new p ≡ entry_at now p
  no_more now w are new with p place =
      sym (with.words.entries p (place_kept now new with.layout p place)) ∙ ap (λ v. entry_of (slice_index v (index_of new p))) (worked_all w (piece.Link [] ∷ []) ∙ words_none 0 w)
      ∙ ap (λ i. entry_of (slice_index w i)) (with.layout.index p) ∙ are.entries p place

  -- the pages from one on
  rest_mapped : (n i : ℕ) → i + n ≡ length ts → (now : Shards) → AreAhead first limits h rights ts i now ahead → IsLaidOutAs first now → (w : List ℕ) → AreWordsOf now w
      → CanBeWorked w (piece.Link (stores_of first rights (drop i ts)) ∷ []) → (new : Shards) → IsWith now (worked w (piece.Link (stores_of first rights (drop i ts)) ∷ [])) new → AreAllMapped new
  rest_mapped zero i whole now so_far layout w are can new with =
      let past : length ts ≤ i = omega (arith, whole) in
      let none = drop_all i ts past in
      let with_none = subst (λ us. IsWith now (worked w (piece.Link (stores_of first rights us) ∷ [])) new) none with in
      let same = no_more now w are new with_none in
      let s = all_sound first limits h rights ts i now ahead past so_far in
      let limits_same : limits_in new ahead ≡ limits_in now ahead = λ j. record { spaces = with.layout.spaces j; bits = with.layout.bits j; frames = length ahead } in
      record {
        left = ap (λ l. holdings_of l new ahead) limits_same ∙ same_holdings (limits_in now ahead) now new ahead s.kept.fits with.present with.layout same ∙ all_left first limits h rights ts i now ahead past so_far;
        is_sound = subst (λ l. IsSound l new ahead) (sym limits_same) (same_sound (limits_in now ahead) now new ahead s.kept.fits with.present with.layout same s);
        same_limits = limits_same ∙ all_limits first limits h rights ts i now ahead past so_far;
      }
  rest_mapped (suc n) i whole now so_far layout w are can new with = by (has_entry first (get_or ts i no_transfer).source) refl (rest_mapped n)
    where
      within : i < length ts
      within = omega (arith, whole)

      stores_are : (b : Bool) → has_entry first (page_at i).source ≡ b → stores_of first rights (drop i ts) ≡ (if b then store_of first rights (page_at i) ∷ stores_of first rights (drop (i + 1) ts) else stores_of first rights (drop (i + 1) ts))
      stores_are b is = ap (stores_of first rights) (drop_more ts i no_transfer within) ∙ stores_more first rights (page_at i) (drop (i + 1) ts) b is

      by : (b : Bool) → has_entry first (page_at i).source ≡ b
          → ((i : ℕ) → i + n ≡ length ts → (now : Shards) → AreAhead first limits h rights ts i now ahead → IsLaidOutAs first now → (w : List ℕ) → AreWordsOf now w
          → CanBeWorked w (piece.Link (stores_of first rights (drop i ts)) ∷ []) → (new : Shards) → IsWith now (worked w (piece.Link (stores_of first rights (drop i ts)) ∷ [])) new → AreAllMapped new)
          → AreAllMapped new
      by false gone go =
          let none = nothing_there (entry_at now (page_at i).source) (ap is_some (sym (stood i within now so_far layout)) ∙ gone) in
          go (i + 1) (omega (arith, whole)) now (lost_here i within now so_far layout none) layout w are
          (subst (λ xs. CanBeWorked w (piece.Link xs ∷ [])) (stores_are false gone) can) new (subst (λ xs. IsWith now (worked w (piece.Link xs ∷ [])) new) (stores_are false gone) with)
      by true held go =
          let e = something_there (entry_at now (page_at i).source) (ap is_some (sym (stood i within now so_far layout)) ∙ held) in
          let x = store_of first rights (page_at i) in
          let us = drop (i + 1) ts in
          let xs = stores_of first rights us in
          let ps = piece.Link (x ∷ []) ∷ [] in
          let qs = piece.Link xs ∷ [] in
          let can_both = one_and_others w x xs (subst (λ ys. CanBeWorked w (piece.Link ys ∷ [])) (stores_are true held) can) in
          let once : are_distinct (puts_of (x ∷ xs)) ≡ true = ap are_distinct (sym (append-nil (puts_of (x ∷ xs)))) ∙ can_both.distinct in
          let each = each_link x xs once in
          let paired = subst (ArePaired so_far.from so_far.to) (drop_more ts i no_transfer within) so_far.are.paired in
          let target : IsThere first (page_at i).target = let t_in = planned.within i no_transfer within in record { place = record { space = t_in.target_space; page = t_in.target_page }; word = targets i no_transfer within } in
          let spared : spare_held ps qs ≡ true =
          ap (list_all (is_none_of (index_of first (page_at i).target ∷ []))) (append-nil (map (λ y. y.read) xs))
          ∙ reads_apart first (page_at i).target target rights so_far.from (λ same. so_far.differ (same ∙ paired.1)) us (sources_in so_far.from so_far.to us paired.3)
          (λ k d less. let u_in = All-drop (IsTransferWithin limits) (i + 1) ts planned.within k d less in record { space = u_in.source_space; page = u_in.source_page }) in
          let can_rest = others_can w ps qs each can_both spared in
          let middle = with_words now so_far.are.sound.kept.fits.present (worked w ps) (ap length (worked_all w ps) ∙ length_words 0 w (flat_map (effects w) ps) ∙ are.count) can_rest.packs in
          go (i + 1) (omega (arith, whole)) middle.0 (mapped_here i within now so_far layout e.0 e.1 w are middle.0 middle.1) (same_layouts first now middle.0 layout middle.1.layout)
          (worked w ps) middle.1.words can_rest new
          (record {
            words = subst (AreWordsOf new) (ap (λ ys. worked w (piece.Link ys ∷ [])) (stores_are true held) ∙ worked_in_turn w x xs ∙ one_after_another w ps qs each can_both spared) with.words;
            present = with.present;
            layout = record { spaces = with.layout.spaces ∙ sym middle.1.layout.spaces; bits = with.layout.bits ∙ sym middle.1.layout.bits; count = with.layout.count ∙ sym middle.1.layout.count; index = λ p. with.layout.index p ∙ sym (middle.1.layout.index p) };
          })

  -- the stores of an item, worked where its trees have the new mappings, are the item mapped
  pub all_linked : (w : List ℕ) → AreWordsOf first w → AreLinked (links_of first ts) trees ahead → CanBeWorked w (piece.Link (stores_of first rights ts) ∷ []) → (new : Shards) → IsWith first (worked w (piece.Link (stores_of first rights ts) ∷ [])) new
      → AreAllMapped new
  all_linked w are linked can new with =
      rest_mapped (length ts) 0 (zero-add (length ts)) first (none_ahead first trees sound rights ts planned ready ahead linked) (record { spaces = refl; bits = refl; count = refl; index = λ p. refl }) w are can new with
