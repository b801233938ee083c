-- The pieces of accesses, of a MapItem and of a GrantItem can be worked beside one another.
use Rattle.std.proofs.Common.{◌≡◌, ℕ, zero, suc, ◌<◌, ◌≤◌, nat_lt, true, false, Bool, not, List, [], ◌∷◌, length, map, get_or, refl, sym, ap, ◌∙◌, subst, arith, if◌then◌else◌}
use Rattle.std.specs.Prelude.{is_some, ◌==◌}
use Rattle.std.specs.List.{All, list_all, flat_map}
use Rattle.std.proofs.lemmas.Bool.{and_from, ne_eqb, eq-eqb, lt-ltb}
use Rattle.std.proofs.lemmas.Grind.{flat_map-append}
use Rattle.std.proofs.lemmas.List.{append-nil}
use Rattle.fpage.specs.declared.rights.Rights.{Rights}
use Rattle.fpage.specs.declared.rights.Access.{Access}
use Rattle.space.specs.declared.place.Place.{Place}
use Rattle.space.specs.declared.shards.Shards.{Shards}
use Rattle.space.specs.Place.{same_place}
use Rattle.space.specs.Shards.{IsPlace, index_of, word_count}
use Rattle.space.proofs.Places.{same_self, apart_back}
use Rattle.space.proofs.ShardWords.{words_are_their_own}
use Rattle.pieces.specs.Contents.{puts_of, ends_of}
use Rattle.pieces.specs.Distinct.{is_none_of, are_distinct}
use Rattle.pieces.specs.Phases.{CanBeWorked, changes, held, named}
use Rattle.pieces.specs.Steps.{entry_in}
use Rattle.pieces.specs.declared.piece.Piece.{Piece}
use Rattle.pieces.specs.declared.piece.Piece.TheVariants as piece
use Rattle.pieces.proofs.InPieces.{flat_parts, flat_of_map, links_change, moves_change}
use Rattle.pieces.proofs.OfOneKind as of_one_kind
use Rattle.pieces.proofs.OfOneKind.{none_folded, none_touch, not_touches}
use Rattle.holdings.specs.declared.transfer.Transfer.{Transfer}
use Rattle.holdings.specs.Sending.{ArePaired}
use Rattle.holdings.specs.Inner.Held.{has_entry}
use Rattle.holdings.specs.Inner.Phases.{ArePieces}
use Rattle.holdings.specs.Inner.Planning.{word_access, store_of, stores_of, word_pair, word_pairs}
use Rattle.holdings.specs.Inner.Words.{AreWordsOf, IsThere}
use Rattle.holdings.proofs.Contents.WordChanges.{there_if_held}

eqb_apart : {i j : ℕ} → (i == j) ≡ false → i ≡ j → ⊥
eqb_apart {i} {j} apart same = cc (apart, eq-eqb i j same)

-- both ends of transfers are places, and the words of the targets are there
abbrev pub EndsStand : Shards → List Transfer → Type 0
EndsStand s ts = All (λ t. IsPlace s t.source × IsThere s t.target) ts

module _ (s : Shards) (w : List ℕ) (are : AreWordsOf s w) (some_there : 0 < word_count s) where
  some_words : 0 < length w
  some_words = omega (arith, some_there, are.count)

  index_within : (p : Place) → IsThere s p → nat_lt (index_of s p) (length w) ≡ true
  index_within p there = lt-ltb (index_of s p) (length w) (omega (arith, there.word, are.count))

  apart_words : (p q : Place) → IsThere s p → IsPlace s q → same_place p q ≡ false → (index_of s p == index_of s q) ≡ false
  apart_words p q p_in q_in apart = ne_eqb (index_of s p) (index_of s q) (λ same. cc (apart, ap (λ x. same_place x q) (words_are_their_own s p q p_in.place q_in p_in.word same), same_self q))

  other_words : (p q : Place) → IsThere s p → IsPlace s q → (p.space ≡ q.space → ⊥) → (index_of s p == index_of s q) ≡ false
  other_words p q p_in q_in differ = ne_eqb (index_of s p) (index_of s q) (λ same. differ (ap (λ x. x.space) (words_are_their_own s p q p_in.place q_in p_in.word same)))

  -- the same, where it is the second of the two whose word is there
  apart_from : (p q : Place) → IsPlace s p → IsThere s q → same_place p q ≡ false → (index_of s p == index_of s q) ≡ false
  apart_from p q p_in q_in apart = ne_eqb (index_of s p) (index_of s q) (λ same. eqb_apart (apart_words q p q_in p_in (apart_back p q apart)) (sym same))

  other_from : (p q : Place) → IsPlace s p → IsThere s q → (p.space ≡ q.space → ⊥) → (index_of s p == index_of s q) ≡ false
  other_from p q p_in q_in differ = ne_eqb (index_of s p) (index_of s q) (λ same. eqb_apart (other_words q p q_in p_in (λ spaces. differ (sym spaces))) (sym same))

  -- ---- accesses

  accesses_within : (ts : List (Place × Access)) → All (λ t. IsThere s t.0) ts → list_all (λ i. nat_lt i (length w)) (map (λ x. x.index) (map (word_access s) ts)) ≡ true
  accesses_within [] places = refl
  accesses_within (t ∷ ts) places = and_from _ _ (index_within t.0 (places 0 t (omega arith))) (accesses_within ts (λ k d less. places (suc k) d (omega (arith, less))))

  pub touches_can : (ts : List (Place × Access)) → All (λ t. IsThere s t.0) ts → (ps : List Piece) → ArePieces piece.Touch (map (word_access s) ts) ps → CanBeWorked w ps
  touches_can ts places ps cut = subst (CanBeWorked w) (sym cut.are) (of_one_kind.touches_can w some_words are.packs (map (word_access s) ts) (accesses_within ts places) cut.parts cut.joined)

  -- ---- links

  stores_within : (rights : Rights) (ts : List Transfer) → EndsStand s ts → list_all (λ i. nat_lt i (length w)) (flat_map (λ x. x.read ∷ x.put ∷ []) (stores_of s rights ts)) ≡ true
  stores_within rights [] places = refl
  stores_within rights (t ∷ ts) places = by (has_entry s t.source) refl (stores_within rights ts (λ k d less. places (suc k) d (omega (arith, less))))
    where
      by : (b : Bool) → has_entry s t.source ≡ b → list_all (λ i. nat_lt i (length w)) (flat_map (λ x. x.read ∷ x.put ∷ []) (stores_of s rights ts)) ≡ true
          → list_all (λ i. nat_lt i (length w)) (flat_map (λ x. x.read ∷ x.put ∷ []) (if b then store_of s rights t ∷ stores_of s rights ts else stores_of s rights ts)) ≡ true
      by false _ rest = rest
      by true held rest = let both = places 0 t (omega arith) in and_from _ _ (index_within t.source (there_if_held s t.source both.0 held)) (and_from _ _ (index_within t.target both.1) rest)

  reads_held : (rights : Rights) (ts : List Transfer) → EndsStand s ts → list_all (λ i. is_some (entry_in w i)) (map (λ x. x.read) (stores_of s rights ts)) ≡ true
  reads_held rights [] places = refl
  reads_held rights (t ∷ ts) places = by (has_entry s t.source) refl (reads_held rights ts (λ k d less. places (suc k) d (omega (arith, less))))
    where
      by : (b : Bool) → has_entry s t.source ≡ b → list_all (λ i. is_some (entry_in w i)) (map (λ x. x.read) (stores_of s rights ts)) ≡ true
          → list_all (λ i. is_some (entry_in w i)) (map (λ x. x.read) (if b then store_of s rights t ∷ stores_of s rights ts else stores_of s rights ts)) ≡ true
      by false _ rest = rest
      by true held rest = and_from _ _ (ap is_some (are.entries t.source (places 0 t (omega arith)).0) ∙ held) rest

  put_apart : (rights : Rights) (p : Place) → IsPlace s p → (ts : List Transfer) → EndsStand s ts → All (λ d. same_place d.target p ≡ false) ts → is_none_of (puts_of (stores_of s rights ts)) (index_of s p) ≡ true
  put_apart rights p place [] places apart = refl
  put_apart rights p place (t ∷ ts) places apart = by (has_entry s t.source) (put_apart rights p place ts (λ k d less. places (suc k) d (omega (arith, less))) (λ k d less. apart (suc k) d (omega (arith, less))))
    where
      by : (b : Bool) → is_none_of (puts_of (stores_of s rights ts)) (index_of s p) ≡ true → is_none_of (puts_of (if b then store_of s rights t ∷ stores_of s rights ts else stores_of s rights ts)) (index_of s p) ≡ true
      by false rest = rest
      by true rest = and_from _ _ (ap not (apart_words t.target p (places 0 t (omega arith)).1 place (apart 0 t (omega arith)))) rest

  pub puts_distinct : (rights : Rights) (from to : ℕ) (ts : List Transfer) → ArePaired from to ts → EndsStand s ts → are_distinct (puts_of (stores_of s rights ts)) ≡ true
  puts_distinct rights from to [] paired places = refl
  puts_distinct rights from to (t ∷ ts) paired places =
      by (has_entry s t.source) (put_apart rights t.target (places 0 t (omega arith)).1.place ts (λ k d less. places (suc k) d (omega (arith, less))) (λ k d less. (paired.2 k d less).1))
      (puts_distinct rights from to ts paired.3 (λ k d less. places (suc k) d (omega (arith, less))))
    where
      by : (b : Bool) → is_none_of (puts_of (stores_of s rights ts)) (index_of s t.target) ≡ true → are_distinct (puts_of (stores_of s rights ts)) ≡ true
          → are_distinct (puts_of (if b then store_of s rights t ∷ stores_of s rights ts else stores_of s rights ts)) ≡ true
      by false _ rest = rest
      by true none rest = and_from _ _ none rest

  pub links_can : (rights : Rights) (from to : ℕ) (ts : List Transfer) → ArePaired from to ts → EndsStand s ts → (ps : List Piece) → ArePieces piece.Link (stores_of s rights ts) ps → CanBeWorked w ps
  links_can rights from to ts paired places ps cut =
      let parts = cut.parts in
      let changed = links_change parts in
      subst (CanBeWorked w) (sym cut.are)
      (record {
        some = some_words;
        packs = are.packs;
        within = ap (list_all (λ i. nat_lt i (length w)))
            (flat_of_map piece.Link named parts ∙ flat_parts (flat_map (λ x. x.read ∷ x.put ∷ [])) refl (flat_map-append (λ x. x.read ∷ x.put ∷ [])) parts ∙ ap (flat_map (λ x. x.read ∷ x.put ∷ [])) cut.joined) ∙ stores_within rights ts places;
        entries = ap (list_all (λ i. is_some (entry_in w i))) (changed.1 ∙ ap (map (λ x. x.read)) cut.joined) ∙ reads_held rights ts places;
        distinct = ap are_distinct (changed.0 ∙ ap puts_of cut.joined) ∙ puts_distinct rights from to ts paired places;
        apart = ap (list_all (is_none_of (flat_map changes (map piece.Link parts)))) (none_folded piece.Link (λ x. refl) parts);
        alike = not_touches (map piece.Link parts) (none_touch piece.Link (λ x. refl) parts);
      })

  -- ---- moves

  pairs_within : (ts : List Transfer) → EndsStand s ts → list_all (λ i. nat_lt i (length w)) (ends_of (word_pairs s ts)) ≡ true
  pairs_within [] places = refl
  pairs_within (t ∷ ts) places = by (has_entry s t.source) refl (pairs_within ts (λ k d less. places (suc k) d (omega (arith, less))))
    where
      by : (b : Bool) → has_entry s t.source ≡ b → list_all (λ i. nat_lt i (length w)) (ends_of (word_pairs s ts)) ≡ true → list_all (λ i. nat_lt i (length w)) (ends_of (if b then word_pair s t ∷ word_pairs s ts else word_pairs s ts)) ≡ true
      by false _ rest = rest
      by true held rest = let both = places 0 t (omega arith) in and_from _ _ (index_within t.source (there_if_held s t.source both.0 held)) (and_from _ _ (index_within t.target both.1) rest)

  takes_held : (ts : List Transfer) → EndsStand s ts → list_all (λ i. is_some (entry_in w i)) (map (λ x. x.taken) (word_pairs s ts)) ≡ true
  takes_held [] places = refl
  takes_held (t ∷ ts) places = by (has_entry s t.source) refl (takes_held ts (λ k d less. places (suc k) d (omega (arith, less))))
    where
      by : (b : Bool) → has_entry s t.source ≡ b → list_all (λ i. is_some (entry_in w i)) (map (λ x. x.taken) (word_pairs s ts)) ≡ true
          → list_all (λ i. is_some (entry_in w i)) (map (λ x. x.taken) (if b then word_pair s t ∷ word_pairs s ts else word_pairs s ts)) ≡ true
      by false _ rest = rest
      by true held rest = and_from _ _ (ap is_some (are.entries t.source (places 0 t (omega arith)).0) ∙ held) rest

  end_apart : (p : Place) → IsPlace s p → (ts : List Transfer) → EndsStand s ts → All (λ d. ((index_of s d.source == index_of s p) ≡ false) × ((index_of s d.target == index_of s p) ≡ false)) ts
      → is_none_of (ends_of (word_pairs s ts)) (index_of s p) ≡ true
  end_apart p place [] places apart = refl
  end_apart p place (t ∷ ts) places apart = by (has_entry s t.source) (end_apart p place ts (λ k d less. places (suc k) d (omega (arith, less))) (λ k d less. apart (suc k) d (omega (arith, less))))
    where
      by : (b : Bool) → is_none_of (ends_of (word_pairs s ts)) (index_of s p) ≡ true → is_none_of (ends_of (if b then word_pair s t ∷ word_pairs s ts else word_pairs s ts)) (index_of s p) ≡ true
      by false rest = rest
      by true rest = let both = apart 0 t (omega arith) in and_from _ _ (ap not both.0) (and_from _ _ (ap not both.1) rest)

  pub ends_distinct : (from to : ℕ) → (from ≡ to → ⊥) → (ts : List Transfer) → ArePaired from to ts → EndsStand s ts → are_distinct (ends_of (word_pairs s ts)) ≡ true
  ends_distinct from to differ [] paired places = refl
  ends_distinct from to differ (t ∷ ts) paired places =
      let both = places 0 t (omega arith) in
      let others : EndsStand s ts = λ k d less. places (suc k) d (omega (arith, less)) in
      by (has_entry s t.source) refl both others
      (end_apart t.target both.1.place ts others (λ k d less.
      let at = others k d less in
      let spaces = spaces_of_all from to ts paired.3 k d less in
      (other_from (get_or ts k d).source t.target at.0 both.1 (λ same. differ (sym spaces.0 ∙ same ∙ paired.1)), apart_from (get_or ts k d).target t.target at.1.place both.1 (paired.2 k d less).1)))
      (ends_distinct from to differ ts paired.3 others)
    where
      spaces_of_all : (from to : ℕ) (us : List Transfer) → ArePaired from to us → All (λ u. (u.source.space ≡ from) × (u.target.space ≡ to)) us
      spaces_of_all from to [] paired k d less = absurd (omega (arith, less))
      spaces_of_all from to (u ∷ us) paired zero d less = (paired.0, paired.1)
      spaces_of_all from to (u ∷ us) paired (suc k) d less = spaces_of_all from to us paired.3 k d (omega (arith, less))

      by : (b : Bool) → has_entry s t.source ≡ b → IsPlace s t.source × IsThere s t.target → EndsStand s ts → is_none_of (ends_of (word_pairs s ts)) (index_of s t.target) ≡ true
          → are_distinct (ends_of (word_pairs s ts)) ≡ true → are_distinct (ends_of (if b then word_pair s t ∷ word_pairs s ts else word_pairs s ts)) ≡ true
      by false _ both others _ rest = rest
      by true held both others target rest =
          let there = there_if_held s t.source both.0 held in
          let source : is_none_of (ends_of (word_pairs s ts)) (index_of s t.source) ≡ true =
          end_apart t.source both.0 ts others (λ k d less.
          let at = others k d less in
          let spaces = spaces_of_all from to ts paired.3 k d less in
          (apart_from (get_or ts k d).source t.source at.0 there (paired.2 k d less).0, other_words (get_or ts k d).target t.source at.1 both.0 (λ same. differ (sym paired.0 ∙ sym same ∙ spaces.1)))) in
          and_from _ _ (and_from _ _ (ap not (other_words t.target t.source both.1 both.0 (λ same. differ (sym paired.0 ∙ sym same ∙ paired.1)))) source) (and_from _ _ target rest)

  pub moves_can : (from to : ℕ) → (from ≡ to → ⊥) → (ts : List Transfer) → ArePaired from to ts → EndsStand s ts → (ps : List Piece) → ArePieces piece.Move (word_pairs s ts) ps → CanBeWorked w ps
  moves_can from to differ ts paired places ps cut =
      let parts = cut.parts in
      let changed = moves_change parts in
      subst (CanBeWorked w) (sym cut.are)
      (record {
        some = some_words;
        packs = are.packs;
        within = ap (list_all (λ i. nat_lt i (length w))) (flat_of_map piece.Move named parts ∙ flat_parts ends_of refl (flat_map-append (λ x. x.taken ∷ x.put ∷ [])) parts ∙ ap ends_of cut.joined) ∙ pairs_within ts places;
        entries = ap (list_all (λ i. is_some (entry_in w i))) (changed.1 ∙ ap (map (λ x. x.taken)) cut.joined) ∙ takes_held ts places;
        distinct = ap are_distinct (changed.0 ∙ ap ends_of cut.joined) ∙ ends_distinct from to differ ts paired places;
        apart = ap (list_all (is_none_of (flat_map changes (map piece.Move parts)))) (none_folded piece.Move (λ x. refl) parts);
        alike = not_touches (map piece.Move parts) (none_touch piece.Move (λ x. refl) parts);
      })

  -- ---- as one piece

  pub link_can : (rights : Rights) (from to : ℕ) (ts : List Transfer) → ArePaired from to ts → EndsStand s ts → CanBeWorked w (piece.Link (stores_of s rights ts) ∷ [])
  link_can rights from to ts paired places =
      let xs = stores_of s rights ts in
      record {
        some = some_words;
        packs = are.packs;
        within = ap (list_all (λ i. nat_lt i (length w))) (append-nil (flat_map (λ x. x.read ∷ x.put ∷ []) xs)) ∙ stores_within rights ts places;
        entries = ap (list_all (λ i. is_some (entry_in w i))) (append-nil (map (λ x. x.read) xs)) ∙ reads_held rights ts places;
        distinct = ap are_distinct (append-nil (puts_of xs)) ∙ puts_distinct rights from to ts paired places;
        apart = refl;
        alike = refl;
      }

  pub move_can : (from to : ℕ) → (from ≡ to → ⊥) → (ts : List Transfer) → ArePaired from to ts → EndsStand s ts → CanBeWorked w (piece.Move (word_pairs s ts) ∷ [])
  move_can from to differ ts paired places =
      let xs = word_pairs s ts in
      record {
        some = some_words;
        packs = are.packs;
        within = ap (list_all (λ i. nat_lt i (length w))) (append-nil (ends_of xs)) ∙ pairs_within ts places;
        entries = ap (list_all (λ i. is_some (entry_in w i))) (append-nil (map (λ x. x.taken) xs)) ∙ takes_held ts places;
        distinct = ap are_distinct (append-nil (ends_of xs)) ∙ ends_distinct from to differ ts paired places;
        apart = refl;
        alike = refl;
      }
