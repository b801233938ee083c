-- The nodes that the pieces of a planned strip keep are those whose pages are held afterwards.
use Rattle.std.proofs.Common.{◌≡◌, ℕ, zero, suc, ◌+◌, ◌<◌, true, false, Bool, not, List, [], ◌∷◌, ◌++◌, length, map, filter, Some, None, slice_index, get_or, unwrap_or, bit_or, refl, sym, ap, ◌∙◌, subst, arith, if◌then◌else◌, zero-add}
use Rattle.std.specs.Prelude.{is_some, ◌==◌}
use Rattle.std.specs.List.{All, flat_map, zip}
use Rattle.std.proofs.lemmas.Bool.{and_parts, eq-eqb, ne_eqb}
use Rattle.std.proofs.lemmas.List.{map-append}
use Rattle.fpage.specs.declared.rights.Rights.{Rights}
use Rattle.space.specs.declared.place.Place.{Place}
use Rattle.space.specs.declared.shards.Shards.{Shards}
use Rattle.space.specs.Word.{word_of, entry_of}
use Rattle.space.specs.Shards.{index_of, entry_at}
use Rattle.space.proofs.ShardWords.{entries_fit}
use Rattle.space.proofs.Words.{unpack_gives_back}
use Rattle.space.specs.declared.node.Node.{Node}
use Rattle.pieces.specs.Contents.{StripContent, IsStrip}
use Rattle.pieces.specs.Distinct.{is_none_of, are_distinct}
use Rattle.pieces.specs.Effects.{gained, word_after}
use Rattle.pieces.specs.Steps.{entry_in, effects, narrowed_by}
use Rattle.pieces.specs.Applied.{worked}
use Rattle.pieces.specs.Values.{remains, kept_nodes}
use Rattle.pieces.specs.Laws.{joined_strips}
use Rattle.pieces.specs.declared.piece.Piece.TheVariants as piece
use Rattle.pieces.proofs.AllSteps.{word_at, worked_all}
use Rattle.pieces.proofs.InPieces.{flat_of_map, zip_append, zip_length}
use Rattle.pieces.proofs.WholeStrips.{over, written_over, narrows, all_written}
use Rattle.holdings.specs.Inner.Held.{has_entry}
use Rattle.holdings.proofs.Contents.WordChanges.{place_kept}
use Rattle.holdings.proofs.Phases.Narrowed.{narrowed_fits}
use Rattle.holdings.specs.Inner.Words.{AreWordsOf, IsThere, IsWith}

-- ---- what narrows of distinct indexes write

module _ (w : List ℕ) where
  -- what each writes
  abbrev WritesItsOwn : List ℕ → List Rights → ℕ × Rights → Type 0
  WritesItsOwn is ms e = over e.0 (narrows w is ms) None ≡ Some (word_of (narrowed_by e.1 (entry_in w e.0)))

  apart_from : (i : ℕ) (is : List ℕ) (ms : List Rights) → is_none_of is i ≡ true → All (λ e. (i == e.0) ≡ false) (zip is ms)
  apart_from i [] ms none = λ k d less. absurd (omega (arith, less))
  apart_from i (j ∷ is) [] none = λ k d less. absurd (omega (arith, less))
  apart_from i (j ∷ is) (m ∷ ms) none = let parts = and_parts (not (j == i)) (is_none_of is i) none in by parts.0 (apart_from i is ms parts.1)
    where
      turned : not (j == i) ≡ true → (i == j) ≡ false
      turned differs = ne_eqb i j (λ same. cc (differs, ap not (eq-eqb j i (sym same))))

      by : not (j == i) ≡ true → All (λ e. (i == e.0) ≡ false) (zip is ms) → All (λ e. (i == e.0) ≡ false) ((j, m) ∷ zip is ms)
      by differs rest zero d less = turned differs
      by differs rest (suc k) d less = rest k d (omega (arith, less))

  each_its_own : (is : List ℕ) (ms : List Rights) → are_distinct is ≡ true → All (WritesItsOwn is ms) (zip is ms)
  each_its_own [] ms once = λ k d less. absurd (omega (arith, less))
  each_its_own (i ∷ is) [] once = λ k d less. absurd (omega (arith, less))
  each_its_own (i ∷ is) (m ∷ ms) once =
      let parts = and_parts (is_none_of is i) (are_distinct is) once in
      by (apart_from i is ms parts.0) (each_its_own is ms parts.1)
    where
      by : All (λ e. (i == e.0) ≡ false) (zip is ms) → All (WritesItsOwn is ms) (zip is ms) → All (WritesItsOwn (i ∷ is) (m ∷ ms)) ((i, m) ∷ zip is ms)
      by apart rest zero d less = ap (λ b. if b then Some (word_of (narrowed_by m (entry_in w i))) else over i (narrows w is ms) None) (eq-eqb i i refl)
      by apart rest (suc k) d less =
          let e = get_or (zip is ms) k d in
          let within : k < length (zip is ms) = omega (arith, less) in
          ap (λ b. if b then Some (word_of (narrowed_by m (entry_in w i))) else over e.0 (narrows w is ms) None) (apart k d within) ∙ rest k d within

-- ---- the strips of some nodes

-- each node has the index of its place
abbrev HasItsIndex : Shards → StripContent → Type 0
HasItsIndex s k = k.indexes ≡ map (λ n. index_of s n.place) k.nodes

joined_have : (s : Shards) (ss : List StripContent) → All (HasItsIndex s) ss → HasItsIndex s (joined_strips ss)
joined_have s [] each = refl
joined_have s (k ∷ ss) each =
    ap (λ is. is ++ (joined_strips ss).indexes) (each 0 k (omega arith)) ∙ ap (λ is. map (λ n. index_of s n.place) k.nodes ++ is) (joined_have s ss (λ j d less. each (suc j) d (omega (arith, less))))
    ∙ sym (map-append (λ n. index_of s n.place) k.nodes (joined_strips ss).nodes)

joined_masks : (ss : List StripContent) → All IsStrip ss → length (joined_strips ss).masks ≡ length (joined_strips ss).nodes
joined_masks [] each = refl
joined_masks (k ∷ ss) each =
    let is : IsStrip k = each 0 k (omega arith) in
    let rest = joined_masks ss (λ j d less. each (suc j) d (omega (arith, less))) in
    let one = length_joined k.masks (joined_strips ss).masks in
    let two = length_joined k.nodes (joined_strips ss).nodes in
    omega (arith, one, two, is.masks, rest)
  where
    length_joined : {A : Type 0} (xs ys : List A) → length (xs ++ ys) ≡ length xs + length ys
    length_joined [] ys = sym (zero-add (length ys))
    length_joined (x ∷ xs) ys = let rest = length_joined xs ys in omega (arith, rest)

module _ (s : Shards) (w : List ℕ) (are : AreWordsOf s w) (ss : List StripContent) (each : All IsStrip ss) (have : All (HasItsIndex s) ss) (places : All (λ n. IsThere s n.place) (joined_strips ss).nodes)
    (once : are_distinct (joined_strips ss).indexes ≡ true) (new : Shards) (with : IsWith s (worked w (map piece.Strip ss)) new) where
  -- what stands at a place after all strips
  entry_after : (p : Place) → IsThere s p → entry_at new p ≡ entry_of (unwrap_or (over (index_of s p) (narrows w (joined_strips ss).indexes (joined_strips ss).masks) None) (bit_or (slice_index w (index_of s p)) (gained (index_of s p) (flat_map (effects w) (map piece.Strip ss)))))
  entry_after p there =
      let i = index_of s p in
      let es = flat_map (effects w) (map piece.Strip ss) in
      sym (with.words.entries p (place_kept s new with.layout p there.place)) ∙ ap (λ j. entry_of (slice_index (worked w (map piece.Strip ss)) j)) (with.layout.index p)
      ∙ ap (λ v. entry_of (slice_index v i)) (worked_all w (map piece.Strip ss))
      ∙ ap entry_of (word_at 0 w es i (omega (arith, there.word, are.count)) ∙ ap (λ j. word_after (slice_index w i) j es) (zero-add i))
      ∙ ap (λ o. entry_of (unwrap_or o (bit_or (slice_index w i) (gained i es)))) (written_over i es ∙ ap (λ fs. over i fs None) (flat_of_map piece.Strip (effects w) ss) ∙ all_written w i ss each None)

  -- a page whose word was narrowed remains where it is held
  remains_held : (p : Place) (m : Rights) → IsThere s p → over (index_of s p) (narrows w (joined_strips ss).indexes (joined_strips ss).masks) None ≡ Some (word_of (narrowed_by m (entry_in w (index_of s p)))) → remains w (index_of s p) m ≡ has_entry new p
  remains_held p m there is =
      let stood = are.entries p there.place in
      ap (λ o. is_some (narrowed_by m o)) stood
      ∙ sym (ap is_some (entry_after p there ∙ ap (λ o. entry_of (unwrap_or o (bit_or (slice_index w (index_of s p)) (gained (index_of s p) (flat_map (effects w) (map piece.Strip ss)))))) is
      ∙ ap (λ o. entry_of (word_of (narrowed_by m o))) stood ∙ (unpack_gives_back (narrowed_by m (entry_at s p)) (narrowed_fits m (entry_at s p) (entries_fit s p))).1))

  -- so it is of all nodes
  abbrev Agrees : Node × (ℕ × Rights) → Type 0
  Agrees e = remains w e.1.0 e.1.1 ≡ has_entry new e.0.place

  all_agree : (ns : List Node) (ms : List Rights) → All (λ n. IsThere s n.place) ns
      → All (WritesItsOwn w (joined_strips ss).indexes (joined_strips ss).masks) (zip (map (λ n. index_of s n.place) ns) ms) → All Agrees (zip ns (zip (map (λ n. index_of s n.place) ns) ms))
  all_agree [] ms places own = λ k d less. absurd (omega (arith, less))
  all_agree (n ∷ ns) [] places own = λ k d less. absurd (omega (arith, less))
  all_agree (n ∷ ns) (m ∷ ms) places own =
      by (remains_held n.place m (places 0 n (omega arith)) (own 0 (index_of s n.place, m) (omega arith))) (all_agree ns ms (λ k d less. places (suc k) d (omega (arith, less))) (λ k d less. own (suc k) d (omega (arith, less))))
    where
      by : Agrees (n, (index_of s n.place, m)) → All Agrees (zip ns (zip (map (λ n. index_of s n.place) ns) ms)) → All Agrees ((n, (index_of s n.place, m)) ∷ zip ns (zip (map (λ n. index_of s n.place) ns) ms))
      by first rest zero d less = first
      by first rest (suc k) d less = rest k d (omega (arith, less))

  -- ---- strip by strip

  all_first : {A : Type 0} (P : A → Type 0) (xs ys : List A) → All P (xs ++ ys) → All P xs
  all_first P [] ys all k d less = absurd (omega (arith, less))
  all_first P (x ∷ xs) ys all zero d less = all 0 d (omega arith)
  all_first P (x ∷ xs) ys all (suc k) d less = all_first P xs ys (λ j e l. all (suc j) e (omega (arith, l))) k d (omega (arith, less))

  all_second : {A : Type 0} (P : A → Type 0) (xs ys : List A) → All P (xs ++ ys) → All P ys
  all_second P [] ys all = all
  all_second P (x ∷ xs) ys all = all_second P xs ys (λ j e l. all (suc j) e (omega (arith, l)))

  kept_by : (ns : List Node) (is : List ℕ) (ms : List Rights) → length is ≡ length ns → length ms ≡ length ns → All Agrees (zip ns (zip is ms))
      → map (λ e. e.0) (filter (λ e. remains w e.1.0 e.1.1) (zip ns (zip is ms))) ≡ filter (λ n. has_entry new n.place) ns
  kept_by [] is ms same_is same_ms agree = refl
  kept_by (n ∷ ns) [] ms same_is same_ms agree = absurd (omega (arith, same_is))
  kept_by (n ∷ ns) (i ∷ is) [] same_is same_ms agree = absurd (omega (arith, same_ms))
  kept_by (n ∷ ns) (i ∷ is) (m ∷ ms) same_is same_ms agree =
      by (remains w i m) (has_entry new n.place) (agree 0 (n, (i, m)) (omega arith)) (kept_by ns is ms (omega (arith, same_is)) (omega (arith, same_ms)) (λ k d less. agree (suc k) d (omega (arith, less))))
    where
      by : (a b : Bool) → a ≡ b → map (λ e. e.0) (filter (λ e. remains w e.1.0 e.1.1) (zip ns (zip is ms))) ≡ filter (λ k. has_entry new k.place) ns
          → map (λ e. e.0) (if a then (n, (i, m)) ∷ filter (λ e. remains w e.1.0 e.1.1) (zip ns (zip is ms)) else filter (λ e. remains w e.1.0 e.1.1) (zip ns (zip is ms)))
          ≡ (if b then n ∷ filter (λ k. has_entry new k.place) ns else filter (λ k. has_entry new k.place) ns)
      by true true same rest = ap (λ ks. n ∷ ks) rest
      by false false same rest = rest
      by true false same rest = absurd (cc same)
      by false true same rest = absurd (cc same)

  kept_each : (qs : List StripContent) → All IsStrip qs → All Agrees (zip (joined_strips qs).nodes (zip (joined_strips qs).indexes (joined_strips qs).masks))
      → map (kept_nodes w) qs ≡ map (λ k. filter (λ n. has_entry new n.place) k.nodes) qs
  kept_each [] strip agree = refl
  kept_each (k ∷ qs) strip agree =
      let is : IsStrip k = strip 0 k (omega arith) in
      let others = joined_strips qs in
      let inner = zip_append k.indexes others.indexes k.masks others.masks (is.indexes ∙ sym is.masks) in
      let l : length k.nodes ≡ length (zip k.indexes k.masks) = sym is.indexes ∙ sym (zip_length k.indexes k.masks (is.indexes ∙ sym is.masks)) in
      let outer = zip_append k.nodes others.nodes (zip k.indexes k.masks) (zip others.indexes others.masks) l in
      let both = subst (All Agrees) (ap (zip (k.nodes ++ others.nodes)) inner ∙ outer) agree in
      ap (λ ns. ns ∷ map (kept_nodes w) qs) (kept_by k.nodes k.indexes k.masks is.indexes is.masks (all_first Agrees (zip k.nodes (zip k.indexes k.masks)) (zip others.nodes (zip others.indexes others.masks)) both))
      ∙ ap (λ rest. filter (λ n. has_entry new n.place) k.nodes ∷ rest) (kept_each qs (λ j d less. strip (suc j) d (omega (arith, less))) (all_second Agrees (zip k.nodes (zip k.indexes k.masks)) (zip others.nodes (zip others.indexes others.masks)) both))

  -- each strip keeps the nodes whose pages are held afterwards
  pub strips_keep : map (kept_nodes w) ss ≡ map (λ k. filter (λ n. has_entry new n.place) k.nodes) ss
  strips_keep =
      let all = joined_strips ss in
      let indexes = joined_have s ss have in
      kept_each ss each (subst (λ is. All Agrees (zip all.nodes (zip is all.masks))) (sym indexes)
      (all_agree all.nodes all.masks places (subst (λ is. All (WritesItsOwn w all.indexes all.masks) (zip is all.masks)) indexes (each_its_own w all.indexes all.masks once))))
