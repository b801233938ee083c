-- One run stripped in pieces is stripped as the definition strips its first page.
use Rattle.std.proofs.Common.{◌≡◌, ℕ, zero, suc, zero-add, ◌+◌, ◌-◌, ◌<◌, ◌≤◌, true, false, Bool, ◌||◌, not, List, [], ◌∷◌, ◌++◌, length, map, take, drop, replicate, Option, Some, None, get_or, refl, sym, ap, ◌∙◌, subst, arith, if◌then◌else◌}
use Rattle.std.specs.Prelude.{is_some}
use Rattle.std.specs.List.{All, AllPass, list_any, flat_map, slice_range}
use Rattle.std.specs.Option.{option_map}
use Rattle.std.specs.declared.ops.Range.{Range}
use Rattle.std.proofs.lemmas.Bool.{or_left, or_right}
use Rattle.std.proofs.lemmas.List.{map-append}
use Rattle.fpage.specs.Rights.{no_rights, is_empty, join, has}
use Rattle.fpage.specs.declared.rights.Rights.{Rights}
use Rattle.fpage.proofs.RightSets.{has-join, same_rights}
use Rattle.space.specs.declared.place.Place.{Place}
use Rattle.space.specs.declared.place.Entry.{Entry}
use Rattle.space.specs.declared.shards.Shards.{Shards}
use Rattle.space.specs.Place.{same_place}
use Rattle.space.proofs.Places.{same_self}
use Rattle.space.specs.Word.{is_pack}
use Rattle.space.specs.Entries.{status_of, with_status}
use Rattle.space.specs.Shards.{IsPlace, HasWord, IsLaidOutAs, index_of, entry_at}
use Rattle.space.proofs.ShardWords.{words_are_their_own}
use Rattle.std.proofs.lemmas.Option.{same_Some}
use Rattle.space.specs.declared.node.Node.{Node}
use Rattle.maptree.specs.Origins.{Origins, Shape, origin_in, place_at, IsRun}
use Rattle.model.specs.Definitions.Strip.{status_over}
use Rattle.model.proofs.LawfulParts.{lawful_parts}
use Rattle.pieces.specs.Contents.{StripContent, IsStrip}
use Rattle.pieces.specs.Masks.{masks_of}
use Rattle.pieces.specs.Steps.{entry_in, effects, status_in}
use Rattle.pieces.specs.Applied.{worked}
use Rattle.pieces.specs.Values.{value}
use Rattle.pieces.specs.Gathering.{union_of}
use Rattle.pieces.specs.Laws.{joined_strips}
use Rattle.pieces.specs.declared.piece.Piece.TheVariants as piece
use Rattle.pieces.proofs.InPieces.{status_joined}
use Rattle.pieces.proofs.AllSteps.{length_words, worked_all}
use Rattle.pieces.proofs.Packs.{packs_after_steps, pieces_suit}
use Rattle.pieces.proofs.WholeStrips.{strips_in_pieces}
use Rattle.maptree.proofs.Listed.{listed_at}
use Rattle.holdings.proofs.Contents.WordChanges.{place_kept}
use Rattle.holdings.specs.Places.{any_of}
use Rattle.holdings.specs.Inner.Held.{links_in, is_listed, limits_in, holdings_in}
use Rattle.maptree.specs.Origins.{IsOriginAt}
use Rattle.holdings.specs.Inner.Planning.{strip_of, strips_of_run, all_places}
use Rattle.holdings.specs.Inner.Sound.{AreLoose}
use Rattle.holdings.proofs.Contents.Holders.{present_within}
use Rattle.holdings.proofs.Trees.Chains.{is_among, among_at, place_at_drop}
use Rattle.holdings.proofs.Stripping.Walks.{IsStripped, IsWalked, walked, same_taken, over_more, over_none, status_held, standing_place, standing_there, run_without_origin, run_with_origin}
use Rattle.holdings.specs.Inner.Words.{AreWordsOf, IsThere, IsWith}
use Rattle.holdings.proofs.Phases.Words.{with_words}
use Rattle.holdings.proofs.Phases.Narrowed.{lost_inside, kept_outside, gained_outside}

-- ---- the parts of a run joined

indexes_of_part : (s : Shards) (part : List Node) → map (λ n. index_of s n.place) part ≡ map (index_of s) (map (λ n. n.place) part)
indexes_of_part s [] = refl
indexes_of_part s (n ∷ part) = ap (λ is. index_of s n.place ∷ is) (indexes_of_part s part)

masks_without_spared : (a : Rights) (n : ℕ) → masks_of false a n ≡ replicate n a
masks_without_spared a zero = refl
masks_without_spared a (suc n) = refl

replicate_more : (a : Rights) (n m : ℕ) → replicate n a ++ replicate m a ≡ replicate (n + m) a
replicate_more a zero m = ap (λ k. replicate k a) (sym (zero-add m))
replicate_more a (suc n) m = let one : suc (n + m) ≡ suc n + m = omega arith in ap (λ ms. a ∷ ms) (replicate_more a n m) ∙ ap (λ k. replicate k a) one

length_joined : {A : Type 0} (xs ys : List A) → length (xs ++ ys) ≡ length xs + length ys
length_joined [] ys = sym (zero-add (length ys))
length_joined (x ∷ xs) ys = let rest = length_joined xs ys in omega (arith, rest)

length_places : (part : List Node) → length (map (λ n. n.place) part) ≡ length part
length_places [] = refl
length_places (n ∷ part) = ap suc (length_places part)

module _ (s : Shards) (a : Rights) (origin : Option Place) where
  pub rest_indexes : (parts : List (List Node)) → (joined_strips (map (strip_of s false a origin) parts)).indexes ≡ map (index_of s) (all_places parts)
  rest_indexes [] = refl
  rest_indexes (part ∷ parts) =
      ap (λ is. is ++ (joined_strips (map (strip_of s false a origin) parts)).indexes) (indexes_of_part s part) ∙ ap (λ is. map (index_of s) (map (λ n. n.place) part) ++ is) (rest_indexes parts)
      ∙ sym (map-append (index_of s) (map (λ n. n.place) part) (all_places parts))

  rest_masks : (parts : List (List Node)) → (joined_strips (map (strip_of s false a origin) parts)).masks ≡ replicate (length (all_places parts)) a
  rest_masks [] = refl
  rest_masks (part ∷ parts) =
      ap (λ ms. ms ++ (joined_strips (map (strip_of s false a origin) parts)).masks) (masks_without_spared a (length part)) ∙ ap (λ ms. replicate (length part) a ++ ms) (rest_masks parts)
      ∙ replicate_more a (length part) (length (all_places parts))
      ∙ ap (λ n. replicate n a) (ap (λ n. n + length (all_places parts)) (sym (length_places part)) ∙ sym (length_joined (map (λ n. n.place) part) (all_places parts)))

  pub whole_indexes : (f : Bool) (part : List Node) (parts : List (List Node)) → (joined_strips (strips_of_run s a f origin (part ∷ parts))).indexes ≡ map (index_of s) (all_places (part ∷ parts))
  whole_indexes f part parts =
      ap (λ is. is ++ (joined_strips (map (strip_of s false a origin) parts)).indexes) (indexes_of_part s part) ∙ ap (λ is. map (index_of s) (map (λ n. n.place) part) ++ is) (rest_indexes parts)
      ∙ sym (map-append (index_of s) (map (λ n. n.place) part) (all_places parts))

  whole_masks : (f : Bool) (n : Node) (part : List Node) (parts : List (List Node)) → (joined_strips (strips_of_run s a f origin ((n ∷ part) ∷ parts))).masks ≡ masks_of (not f) a (length (all_places ((n ∷ part) ∷ parts)))
  whole_masks f n part parts =
      ap (λ ms. (if not f then no_rights else a) ∷ (replicate (length part) a ++ ms)) (rest_masks parts)
      ∙ ap (λ ms. (if not f then no_rights else a) ∷ ms) (replicate_more a (length part) (length (all_places parts))
      ∙ ap (λ m. replicate m a) (ap (λ m. m + length (all_places parts)) (sym (length_places part)) ∙ sym (length_joined (map (λ k. k.place) part) (all_places parts))))

  one_fold : (f : Bool) (parts : List (List Node)) → All (λ k. k.fold ≡ option_map (index_of s) origin) (strips_of_run s a f origin parts)
  one_fold f [] = λ k d less. absurd (omega (arith, less))
  one_fold f (part ∷ parts) = λ k d less. by k d less
    where
      rest : (parts : List (List Node)) (k : ℕ) (d : StripContent) → k < length (map (strip_of s false a origin) parts) → (get_or (map (strip_of s false a origin) parts) k d).fold ≡ option_map (index_of s) origin
      rest [] k d less = absurd (omega (arith, less))
      rest (part ∷ parts) zero d less = refl
      rest (part ∷ parts) (suc k) d less = rest parts k d (omega (arith, less))

      by : (k : ℕ) (d : StripContent) → k < length (strips_of_run s a f origin (part ∷ parts)) → (get_or (strips_of_run s a f origin (part ∷ parts)) k d).fold ≡ option_map (index_of s) origin
      by zero d less = refl
      by (suc k) d less = rest parts k d (omega (arith, less))

-- ---- status

pub join_turned : (r t : Rights) → join r t ≡ join t r
join_turned r t = same_rights (join r t) (join t r) (λ a. has-join r t a ∙ or_turned (has r a) (has t a) ∙ sym (has-join t r a))
  where
    or_turned : (x y : Bool) → (x || y) ≡ (y || x)
    or_turned x y = grind arith

module _ (old : Shards) (trees : List Shape) (loose : AreLoose old trees) (w : List ℕ) (are : AreWordsOf old w) (c : Place) (a : Rights) (f : Bool) where
  -- the status in the words of some pages is that over them
  status_of_places : (qs : List Place) → All (IsThere old) qs → status_in w (map (index_of old) qs) ≡ status_over (any_of qs) (holdings_in old trees)
  status_of_places [] places = sym (over_none (holdings_in old trees) (lawful_parts (holdings_in old trees) loose.lawful) (any_of []) (λ p. refl))
  status_of_places (q ∷ qs) places =
      let h = holdings_in old trees in
      let place = (places 0 q (omega arith)).place in
      ap (join (status_of (entry_in w (index_of old q)))) (status_of_places qs (λ k d less. places (suc k) d (omega (arith, less)))) ∙ join_turned (status_of (entry_in w (index_of old q))) (status_over (any_of qs) h)
      ∙ ap (join (status_over (any_of qs) h)) (ap status_of (are.entries q place) ∙ sym (status_held old trees loose c a f q place))
      ∙ sym (over_more h (lawful_parts h loose.lawful) (any_of qs) (any_of (q ∷ qs)) q (λ p. or_turned (same_place p q) (any_of qs p)))
    where
      or_turned : (x y : Bool) → (x || y) ≡ (y || x)
      or_turned x y = grind arith

-- ---- the places of a run

pub slice_of_map : (os : Origins) (from to : ℕ) → slice_range (map (λ o. o.0) os) from to ≡ map (λ o. o.0) (slice_range os from to)
slice_of_map os from to = ap (take (to - from)) (map_drop from os) ∙ map_take (to - from) (drop from os)
  where
    map_drop : (n : ℕ) (os : Origins) → drop n (map (λ o. o.0) os) ≡ map (λ o. o.0) (drop n os)
    map_drop zero os = refl
    map_drop (suc n) [] = refl
    map_drop (suc n) (o ∷ os) = map_drop n os

    map_take : (n : ℕ) (os : Origins) → take n (map (λ o. o.0) os) ≡ map (λ o. o.0) (take n os)
    map_take zero os = refl
    map_take (suc n) [] = refl
    map_take (suc n) (o ∷ os) = ap (λ ps. o.0 ∷ ps) (map_take n os)

pub any_of_places : (os : Origins) (p : Place) → any_of (map (λ o. o.0) os) p ≡ list_any (λ o. same_place p o.0) os
any_of_places [] p = refl
any_of_places (o ∷ os) p = ap (λ b. same_place p o.0 || b) (any_of_places os p)

-- each place of a part of a list is listed
pub each_listed : (P : Place → Type 0) (os : Origins) → ((p : Place) → list_any (λ o. same_place p o.0) os ≡ true → P p) → All P (map (λ o. o.0) os)
each_listed P [] holds = λ k d less. absurd (omega (arith, less))
each_listed P (o ∷ os) holds = by (each_listed P os (λ p in_rest. holds p (or_right _ _ in_rest)))
  where
    by : All P (map (λ (x : Place × Option Place). x.0) os) → All P (map (λ (x : Place × Option Place). x.0) (o ∷ os))
    by rest zero d less = holds o.0 (or_left _ _ (same_self o.0))
    by rest (suc k) d less = rest k d (omega (arith, less))

-- ---- one run

module _ (old : Shards) (trees : List Shape) (loose : AreLoose old trees) (frame : ℕ) (run : Range ℕ) (is_run : IsRun (links_in trees frame) run) (some : run.start < run.end) (within_run : run.end ≤ length (links_in trees frame))
    (a : Rights) (f : Bool) (origin : Option Place) (is_origin : IsOriginAt (links_in trees frame) run.start origin)
    (n : Node) (part : List Node) (parts : List (List Node)) (their_places : all_places ((n ∷ part) ∷ parts) ≡ slice_range (map (λ o. o.0) (links_in trees frame)) run.start run.end)
    (w : List ℕ) (are : AreWordsOf old w) (each : All IsStrip (strips_of_run old a f origin ((n ∷ part) ∷ parts)))
    (held : (o : Place) → origin ≡ Some o → is_some (entry_at old o) ≡ true) (apart : (o : Place) → origin ≡ Some o → is_among (links_in trees frame) run.start run.end o ≡ false)
    (new : Shards) (with : IsWith old (worked w (map piece.Strip (strips_of_run old a f origin ((n ∷ part) ∷ parts)))) new) where
  abbrev strips : List StripContent
  strips = strips_of_run old a f origin ((n ∷ part) ∷ parts)

  -- the first page, and those behind it
  abbrev c : Place
  c = n.place

  abbrev behind : List Place
  behind = map (λ k. k.place) part ++ all_places parts

  -- the run as one strip
  abbrev whole : StripContent
  whole = record (joined_strips strips) { fold = option_map (index_of old) origin }

  worked_whole : worked w (map piece.Strip strips) ≡ worked w (piece.Strip whole ∷ [])
  worked_whole = strips_in_pieces w (option_map (index_of old) origin) strips each (one_fold old a origin f ((n ∷ part) ∷ parts))

  places_are : c ∷ behind ≡ map (λ o. o.0) (slice_range (links_in trees frame) run.start run.end)
  places_are = their_places ∙ slice_of_map (links_in trees frame) run.start run.end

  among_is : (p : Place) → any_of (c ∷ behind) p ≡ is_among (links_in trees frame) run.start run.end p
  among_is p = ap (λ ps. any_of ps p) places_are ∙ any_of_places (slice_range (links_in trees frame) run.start run.end) p

  places : All (IsThere old) (c ∷ behind)
  places = subst (All (IsThere old)) (sym places_are) (each_listed (IsThere old) (slice_range (links_in trees frame) run.start run.end) (λ p among.
      let at = among_at (links_in trees frame) run.start run.end p p among in
      standing_there old trees frame loose p (subst (λ q. is_listed trees frame q ≡ true) at.4 (listed_at (links_in trees frame) at.0 p at.3))))

  first : (d : Place) → place_at (links_in trees frame) run.start d ≡ c
  first d =
      let here : run.start + 0 ≡ run.start = omega arith in
      let one : 0 < run.end - run.start = omega (arith, some) in
      ap (λ j. place_at (links_in trees frame) j d) (sym here) ∙ sym (place_at_drop run.start (links_in trees frame) 0 d) ∙ by (drop run.start (links_in trees frame)) (run.end - run.start) one places_are
    where
      by : (os : Origins) (m : ℕ) → 0 < m → c ∷ behind ≡ map (λ o. o.0) (take m os) → place_at os 0 d ≡ c
      by os zero one same = absurd (omega (arith, one))
      by [] (suc m) one same = absurd (cc same)
      by (o ∷ os) (suc m) one same = cc same

  -- what is held has rights
  rights : (p : Place) (e : Entry) → IsPlace old p → entry_at old p ≡ Some e → is_empty e.rights ≡ false
  rights p e place is =
      (lawful_parts (holdings_in old trees) loose.lawful).some p _ (present_within (limits_in old trees) old trees p (record { space = place.space; page = place.page }) e is)

  -- the status that the pieces found
  abbrev status : Rights
  status = union_of (map (λ k. (value w (piece.Strip k)).status) strips)

  found_is : status ≡ status_in w (map (index_of old) (c ∷ behind))
  found_is = status_joined w strips ∙ ap (status_in w) (whole_indexes old a origin f (n ∷ part) parts)

  -- a strip of the run, with a fold word or none
  abbrev run_strip : Option ℕ → StripContent
  run_strip fold = record (joined_strips strips) { fold = fold }

  its_indexes : (fold : Option ℕ) → (run_strip fold).indexes ≡ map (index_of old) (c ∷ behind)
  its_indexes fold = whole_indexes old a origin f (n ∷ part) parts

  its_masks : (fold : Option ℕ) → (run_strip fold).masks ≡ masks_of (not f) a (length (c ∷ behind))
  its_masks fold = whole_masks old a origin f n part parts

  -- without a fold word the run is as after a walk over it
  walked_over : (m : Shards) → IsWith old (worked w (piece.Strip (run_strip None) ∷ [])) m → IsWalked old trees frame run.start c a f run.end m status
  walked_over m m_with = same_taken old trees loose c a f (any_of (c ∷ behind)) (is_among (links_in trees frame) run.start run.end) m status among_is (record {
    layout = m_with.layout;
    present = m_with.present;
    entries = λ p place. by p place (any_of (c ∷ behind) p) refl;
    gathered = found_is ∙ status_of_places old trees loose w are c a f (c ∷ behind) places;
  })
    where
      by : (p : Place) → IsPlace old p → (b : Bool) → any_of (c ∷ behind) p ≡ b → entry_at m p ≡ walked (any_of (c ∷ behind) p) (f || not (same_place p c)) a (entry_at old p)
      by p place true among =
          lost_inside old w are c behind places a f rights (run_strip None) (its_indexes None) (its_masks None) m m_with p place among ∙ ap (λ b. walked b (f || not (same_place p c)) a (entry_at old p)) (sym among)
      by p place false none =
          kept_outside old w are c behind places a f rights (run_strip None) (its_indexes None) (its_masks None) m m_with p place none (λ i is. absurd (cc is)) ∙ ap (λ b. walked b (f || not (same_place p c)) a (entry_at old p)) (sym none)

  -- without an origin
  without_origin : origin ≡ None → IsStripped old trees c a f new status
  without_origin none =
      let alone : worked w (map piece.Strip strips) ≡ worked w (piece.Strip (run_strip None) ∷ []) = worked_whole ∙ ap (λ o. worked w (piece.Strip (run_strip (option_map (index_of old) o)) ∷ [])) none in
      run_without_origin old trees loose frame run is_run some within_run c first a f new status (walked_over new (subst (λ v. IsWith old v new) alone with))
      (ap (origin_in (links_in trees frame)) (sym (first c)) ∙ is_origin.is c ∙ none)

  -- with one, which gains the status
  module _ (o : Place) (is : origin ≡ Some o) (m : Shards) (m_with : IsWith old (worked w (piece.Strip (run_strip None) ∷ [])) m) where
    o_place : IsPlace old o
    o_place = standing_place old trees frame loose o (is_origin.stands o is)

    o_word : HasWord old o
    o_word = loose.words frame o (is_origin.stands o is)

    o_apart : any_of (c ∷ behind) o ≡ false
    o_apart = among_is o ∙ apart o is

    folded : IsWith old (worked w (piece.Strip (run_strip (Some (index_of old o))) ∷ [])) new
    folded = subst (λ v. IsWith old v new) (worked_whole ∙ ap (λ x. worked w (piece.Strip (run_strip (option_map (index_of old) x)) ∷ [])) is) with

    there : entry_at new o ≡ option_map (with_status status) (entry_at m o)
    there =
        gained_outside old w are c behind places a f rights (run_strip (Some (index_of old o))) (its_indexes (Some (index_of old o))) (its_masks (Some (index_of old o))) new folded o o_place o_apart refl (held o is)
        ∙ ap (λ r. option_map (with_status r) (entry_at old o)) (sym found_is)
        ∙ ap (option_map (with_status status)) (sym (kept_outside old w are c behind places a f rights (run_strip None) (its_indexes None) (its_masks None) m m_with o o_place o_apart (λ i none. absurd (cc none))))

    elsewhere : (q : Place) → IsPlace m q → (q ≡ o → ⊥) → entry_at new q ≡ entry_at m q
    elsewhere q place differ = by (place_kept m old (layout_back m_with.layout) q place) (any_of (c ∷ behind) q) refl
      where
        layout_back : IsLaidOutAs old m → IsLaidOutAs m old
        layout_back l = record { spaces = sym l.spaces; bits = sym l.bits; count = sym l.count; index = λ p. sym (l.index p) }

        by : IsPlace old q → (b : Bool) → any_of (c ∷ behind) q ≡ b → entry_at new q ≡ entry_at m q
        by q_place true among =
            lost_inside old w are c behind places a f rights (run_strip (Some (index_of old o))) (its_indexes (Some (index_of old o))) (its_masks (Some (index_of old o))) new folded q q_place among
            ∙ sym (lost_inside old w are c behind places a f rights (run_strip None) (its_indexes None) (its_masks None) m m_with q q_place among)
        by q_place false none =
            kept_outside old w are c behind places a f rights (run_strip (Some (index_of old o))) (its_indexes (Some (index_of old o))) (its_masks (Some (index_of old o))) new folded q q_place none
            (λ i i_is same. differ (sym (words_are_their_own old o q o_place q_place o_word (same_Some (index_of old o) i i_is ∙ same))))
            ∙ sym (kept_outside old w are c behind places a f rights (run_strip None) (its_indexes None) (its_masks None) m m_with q q_place none (λ i nothing. absurd (cc nothing)))

    with_origin : IsStripped old trees c a f new status
    with_origin =
        run_with_origin old trees loose frame run is_run some within_run c first a f m status (walked_over m m_with) o new (ap (origin_in (links_in trees frame)) (sym (first c)) ∙ is_origin.is c ∙ is)
        (place_kept old m m_with.layout o o_place) (record { there = there; elsewhere = elsewhere }) with.present
        (record { spaces = with.layout.spaces ∙ sym m_with.layout.spaces; bits = with.layout.bits ∙ sym m_with.layout.bits; count = with.layout.count ∙ sym m_with.layout.count; index = λ p. with.layout.index p ∙ sym (m_with.layout.index p) })

  -- words without the fold
  unfolded : (m : Shards) × IsWith old (worked w (piece.Strip (run_strip None) ∷ [])) m
  unfolded =
      let ps = piece.Strip (run_strip None) ∷ [] in
      let words = worked_all w ps in
      with_words old loose.fits.present (worked w ps) (ap length words ∙ length_words 0 w (flat_map (effects w) ps) ∙ are.count)
      (subst (AllPass is_pack) (sym words) (packs_after_steps w (flat_map (effects w) ps) are.packs (pieces_suit w ps refl)))

  -- the run is stripped as its first page
  pub run_stripped : (d : Place) → IsStripped old trees (place_at (links_in trees frame) run.start d) a f new status
  run_stripped d = subst (λ p. IsStripped old trees p a f new status) (sym (first d)) (by origin refl)
    where
      by : (x : Option Place) → origin ≡ x → IsStripped old trees c a f new status
      by None is = without_origin is
      by (Some o) is = with_origin o is unfolded.0 unfolded.1
