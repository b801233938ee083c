-- Pages that move all at once: their places are replaced in the trees, and their words move.
use Rattle.std.proofs.Common.{◌≡◌, ℕ, ◌<◌, true, false, Bool, ◌||◌, List, [], ◌∷◌, length, Option, Some, None, refl, sym, ap, ◌∙◌, subst, ◌⊎◌, inl, inr, if◌then◌else◌, arith}
use Rattle.std.specs.Prelude.{IsFalse}
use Rattle.std.specs.Option.{option_map, option_and_then}
use Rattle.std.specs.FinMap.Entries.{find}
use Rattle.std.proofs.lemmas.Bool.{eq-eqb}
use Rattle.std.proofs.lemmas.Option.{same_Some}
use Rattle.fpage.specs.Rights.{no_rights}
use Rattle.space.specs.declared.place.Place.{Place}
use Rattle.space.specs.declared.place.Entry.{Entry}
use Rattle.space.specs.declared.shards.Shards.{Shards}
use Rattle.space.specs.Place.{place_cmp, same_place}
use Rattle.space.specs.Shards.{word_count, spaces_of, bits_of, entry_at, is_taken}
use Rattle.space.proofs.Places.{same_self, same_or_apart}
use Rattle.maptree.specs.Origins.{Shape, Origins, origin_in}
use Rattle.maptree.specs.Renamings.{replaced_by, all_renamed, StayApart}
use Rattle.model.specs.Definitions.Holdings.{Held, Holdings, at}
use Rattle.model.specs.Definitions.Calls.{Limits}
use Rattle.model.specs.Definitions.Lawful.{is_lawful}
use Rattle.model.specs.Definitions.Items.{Pair, sources_of}
use Rattle.model.specs.Definitions.Grant.{target_of, moved_to, moved, renamed}
use Rattle.model.specs.Laws.SendLaws.{In}
use Rattle.model.proofs.Jobs.{ArePaired}
use Rattle.model.proofs.LawfulParts.{IsLawful, lawful_parts, lawful_from}
use Rattle.model.proofs.Puts.{apart_places}
use Rattle.model.proofs.Renames.{MovesApart, moved_cases, renamed_sorted, renamed_was, renamed_at, lawful_renamed}
use Rattle.model.proofs.Moves.{paired_apart}
use Rattle.holdings.specs.Inner.Derivation.{stands_in}
use Rattle.holdings.specs.Places.{IsWithin}
use Rattle.holdings.specs.Inner.Held.{is_place, links_in, is_listed, held_of, held_at, has_frame, holdings_of}
use Rattle.holdings.specs.Inner.Sound.{IsSound}
use Rattle.holdings.proofs.Contents.Listing.{listing_is, listed_within, place_from_within, within_from_place}
use Rattle.holdings.proofs.Contents.Holders.{present_within}
use Rattle.holdings.proofs.Contents.WordChanges.{frame_from}
use Rattle.holdings.proofs.Links.LinkedTrees.{some_or}

-- ---- a tree in which places are replaced

module _ (new : Place → Option Place) where
  -- a place stands there as what it became
  replaced_stands : (os : Origins) (p : Place) → stands_in os p ≡ true → stands_in (all_renamed new os) (replaced_by new p) ≡ true
  replaced_stands [] p stands = absurd (cc stands)
  replaced_stands (o ∷ os) p stands = by (same_or_apart p o.0) stands (replaced_stands os p)
    where
      by : (p ≡ o.0) ⊎ (same_place p o.0 ≡ false) → (same_place p o.0 || stands_in os p) ≡ true → (stands_in os p ≡ true → stands_in (all_renamed new os) (replaced_by new p) ≡ true)
          → (same_place (replaced_by new p) (replaced_by new o.0) || stands_in (all_renamed new os) (replaced_by new p)) ≡ true
      by (inl same) here rest = ap (λ x. same_place (replaced_by new x) (replaced_by new o.0) || stands_in (all_renamed new os) (replaced_by new p)) same ∙ ap (λ b. b || stands_in (all_renamed new os) (replaced_by new p)) (same_self (replaced_by new o.0))
      by (inr apart) here rest = some_or (same_place (replaced_by new p) (replaced_by new o.0)) _ (rest (sym (ap (λ b. b || stands_in os p) apart) ∙ here))

  -- what stands there is what some place became
  pub stood_replaced : (os : Origins) (q : Place) → stands_in (all_renamed new os) q ≡ true → (p : Place) × (stands_in os p ≡ true) × (replaced_by new p ≡ q)
  stood_replaced [] q stands = absurd (cc stands)
  stood_replaced (o ∷ os) q stands = by (same_or_apart q (replaced_by new o.0)) stands (stood_replaced os q)
    where
      by : (q ≡ replaced_by new o.0) ⊎ (same_place q (replaced_by new o.0) ≡ false) → (same_place q (replaced_by new o.0) || stands_in (all_renamed new os) q) ≡ true
          → (stands_in (all_renamed new os) q ≡ true → (p : Place) × (stands_in os p ≡ true) × (replaced_by new p ≡ q)) → (p : Place) × (stands_in (o ∷ os) p ≡ true) × (replaced_by new p ≡ q)
      by (inl same) here rest = (o.0, ap (λ b. b || stands_in os o.0) (same_self o.0), sym same)
      by (inr apart) here rest =
          let was = rest (sym (ap (λ b. b || stands_in (all_renamed new os) q) apart) ∙ here) in
          (was.0, some_or (same_place was.0 o.0) (stands_in os was.0) was.1, was.2)

  replaced_find : (os : Origins) (p : Place) → ((q : Place) → stands_in os q ≡ true → replaced_by new p ≡ replaced_by new q → p ≡ q)
      → find place_cmp (replaced_by new p) (all_renamed new os) ≡ option_map (option_map (replaced_by new)) (find place_cmp p os)
  replaced_find [] p alone = refl
  replaced_find (o ∷ os) p alone = by (same_or_apart p o.0) (replaced_find os p (λ q stands. alone q (some_or (same_place q o.0) (stands_in os q) stands)))
    where
      first : (b : Bool) → (if b then Some (option_map (replaced_by new) o.1) else option_map (option_map (replaced_by new)) (find place_cmp p os)) ≡ option_map (option_map (replaced_by new)) (if b then Some o.1 else find place_cmp p os)
      first true = refl
      first false = refl

      by : (p ≡ o.0) ⊎ (same_place p o.0 ≡ false) → find place_cmp (replaced_by new p) (all_renamed new os) ≡ option_map (option_map (replaced_by new)) (find place_cmp p os)
          → (if same_place (replaced_by new p) (replaced_by new o.0) then Some (option_map (replaced_by new) o.1) else find place_cmp (replaced_by new p) (all_renamed new os))
          ≡ option_map (option_map (replaced_by new)) (if same_place p o.0 then Some o.1 else find place_cmp p os)
      by (inl same) rest =
          let one : same_place (replaced_by new p) (replaced_by new o.0) ≡ true = ap (λ x. same_place (replaced_by new x) (replaced_by new o.0)) same ∙ same_self (replaced_by new o.0) in
          let also : same_place p o.0 ≡ true = ap (λ x. same_place x o.0) same ∙ same_self o.0 in
          ap (λ b. if b then Some (option_map (replaced_by new) o.1) else find place_cmp (replaced_by new p) (all_renamed new os)) one
          ∙ sym (ap (λ b. option_map (option_map (replaced_by new)) (if b then Some o.1 else find place_cmp p os)) also)
      by (inr apart) rest =
          let differ : same_place (replaced_by new p) (replaced_by new o.0) ≡ false =
          apart_places (replaced_by new p) (replaced_by new o.0) (λ one. cc (apart, ap (λ x. same_place x o.0) (alone o.0 (ap (λ b. b || stands_in os o.0) (same_self o.0)) one), same_self o.0)) in
          (λ i. if differ i then Some (option_map (replaced_by new) o.1) else rest i)
          ∙ sym (ap (λ b. option_map (option_map (replaced_by new)) (if b then Some o.1 else find place_cmp p os)) apart)

  -- and has as origin what its origin became
  replaced_origin : (os : Origins) (p : Place) → StayApart new os → stands_in os p ≡ true → origin_in (all_renamed new os) (replaced_by new p) ≡ option_map (replaced_by new) (origin_in os p)
  replaced_origin os p apart stands = ap (option_and_then (λ o. o)) (replaced_find os p (λ q there. apart p q stands there)) ∙ by (find place_cmp p os)
    where
      by : (o : Option (Option Place)) → option_and_then (λ o. o) (option_map (option_map (replaced_by new)) o) ≡ option_map (replaced_by new) (option_and_then (λ o. o) o)
      by None = refl
      by (Some o) = refl

-- ---- words

-- a page's entry after the move: without status if it moved
abbrev pub entry_moved : List Pair → Place → Entry → Entry
entry_moved es p e = record { frame = e.frame; rights = e.rights; status = if sources_of es p then no_rights else e.status }

-- the place from which an entry came
pub record CameFrom (limits : Limits) (es : List Pair) (old : Shards) (q : Place) : Type 0 where
  pub place : Place
  pub entry : Entry
  pub within : IsWithin limits place
  pub stood : entry_at old place ≡ Some entry
  pub to : moved_to es place ≡ q

-- each entry moved with its page, and nothing else stands in the words
pub record AreWordsMoved (limits : Limits) (es : List Pair) (old new : Shards) : Type 0 where
  pub present : IsFalse (is_taken new)
  pub spaces : spaces_of new ≡ spaces_of old
  pub bits : bits_of new ≡ bits_of old
  pub count : word_count new ≡ word_count old
  pub forth : (p : Place) (e : Entry) → IsWithin limits p → entry_at old p ≡ Some e → entry_at new (moved_to es p) ≡ Some (entry_moved es p e)
  pub back : (q : Place) (x : Entry) → IsWithin limits q → entry_at new q ≡ Some x → CameFrom limits es old q

-- ---- words and trees

-- the tree of a frame after the move
pub data IsFrameMoved (es : List Pair) (old now : Origins) : Type 0 where
  -- its places are replaced
  are_replaced : now ≡ all_renamed (target_of es) old → IsFrameMoved es old now
  -- none of them moves
  are_kept : now ≡ old → ((p : Place) → stands_in old p ≡ true → moved_to es p ≡ p) → IsFrameMoved es old now

module _ (limits : Limits) (old : Shards) (trees : List Shape) (from to : ℕ) (es : List Pair) (sound : IsSound limits old trees) (paired : ArePaired from to es) (free : (e : Pair) → In e es → at (holdings_of limits old trees) e.1 ≡ None) where
  abbrev before : Holdings
  before = holdings_of limits old trees

  lawful_before : IsLawful before
  lawful_before = lawful_parts before sound.kept.lawful

  moves_apart : MovesApart es before
  moves_apart = paired_apart from to es paired before free

  -- what stands in the tree of a frame is held there
  pub held_listed : (f : ℕ) (p : Place) → is_listed trees f p ≡ true → IsWithin limits p × ((e : Entry) × (entry_at old p ≡ Some e) × (e.frame ≡ f))
  held_listed f p listed = (within_from_place limits p (sound.pruned.within f p listed), frame_from f (entry_at old p) (sound.pruned.held f p listed))

  pub stay_apart : (f : ℕ) → StayApart (target_of es) (links_in trees f)
  stay_apart f p q there_p there_q one =
      let a = held_listed f p there_p in
      let b = held_listed f q there_q in
      moves_apart.one p q (held_of trees p a.1.0) (held_of trees q b.1.0) (present_within limits old trees p a.0 a.1.0 a.1.1) (present_within limits old trees q b.0 b.1.0 b.1.1) one

  -- what is held has an entry
  held_entry : (p : Place) (k : Held) → at before p ≡ Some k → IsWithin limits p × ((e : Entry) × (entry_at old p ≡ Some e) × (k ≡ held_of trees p e))
  held_entry p k held = let is = listed_within (held_at old trees) limits p k held in (is.0, by (entry_at old p) refl is.1)
    where
      by : (o : Option Entry) → entry_at old p ≡ o → option_map (held_of trees p) o ≡ Some k → (e : Entry) × (entry_at old p ≡ Some e) × (k ≡ held_of trees p e)
      by None stood is = absurd (cc is)
      by (Some e) stood is = (e, stood, sym (same_Some (held_of trees p e) k is))

  -- an origin is listed with what derives from it
  origin_listed : (f : ℕ) (p o : Place) → is_listed trees f p ≡ true → origin_in (links_in trees f) p ≡ Some o → is_listed trees f o ≡ true
  origin_listed f p o listed from =
      let a = held_listed f p listed in
      let origin = lawful_before.origin p o (held_of trees p a.1.0) (present_within limits old trees p a.0 a.1.0 a.1.1) (ap (λ g. origin_in (links_in trees g) p) a.1.2 ∙ from) in
      let b = held_entry o origin.held origin.is in
      subst (λ g. is_listed trees g o ≡ true) (sym (ap (λ (k : Held). k.frame) b.1.2) ∙ sym origin.frame ∙ a.1.2) (sound.kept.fits.listed o b.1.0 b.0 b.1.1)

  module _ (new : Shards) (after : List Shape) (targets : (e : Pair) → In e es → IsWithin limits e.1)
      (words : AreWordsMoved limits es old new) (count : length after ≡ length trees) (frames : (f : ℕ) → IsFrameMoved es (links_in trees f) (links_in after f)) where
    moved_within : (p : Place) → IsWithin limits p → IsWithin limits (moved_to es p)
    moved_within p within = by (moved_cases es p)
      where
        by : ((e : Pair) × In e es × (e.0 ≡ p) × (moved_to es p ≡ e.1)) ⊎ ((sources_of es p ≡ false) × (moved_to es p ≡ p)) → IsWithin limits (moved_to es p)
        by (inl (e, k, _, is)) = subst (IsWithin limits) (sym is) (targets e k)
        by (inr (_, stays)) = subst (IsWithin limits) (sym stays) within

    -- ---- trees

    listed_moved : (f : ℕ) (p : Place) → is_listed trees f p ≡ true → is_listed after f (moved_to es p) ≡ true
    listed_moved f p listed = elim (frames f) [
      | are_replaced is ↦ ap (λ (os : Origins). stands_in os (moved_to es p)) is ∙ replaced_stands (target_of es) (links_in trees f) p listed
      | are_kept is stays ↦ ap (λ (os : Origins). stands_in os (moved_to es p)) is ∙ ap (stands_in (links_in trees f)) (stays p listed) ∙ listed
    ]

    was_listed : (f : ℕ) (q : Place) → is_listed after f q ≡ true → (p : Place) × (is_listed trees f p ≡ true) × (moved_to es p ≡ q)
    was_listed f q listed = elim (frames f) [
      | are_replaced is ↦ stood_replaced (target_of es) (links_in trees f) q (sym (ap (λ (os : Origins). stands_in os q) is) ∙ listed)
      | are_kept is stays ↦ let was : is_listed trees f q ≡ true = sym (ap (λ (os : Origins). stands_in os q) is) ∙ listed in (q, was, stays q was)
    ]

    origin_moved : (f : ℕ) (p : Place) → is_listed trees f p ≡ true → origin_in (links_in after f) (moved_to es p) ≡ option_map (moved_to es) (origin_in (links_in trees f) p)
    origin_moved f p listed = elim (frames f) [
      | are_replaced is ↦ ap (λ os. origin_in os (moved_to es p)) is ∙ replaced_origin (target_of es) (links_in trees f) p (stay_apart f) listed
      | are_kept is stays ↦ (λ i. origin_in (is i) (stays p listed i)) ∙ same_origin stays (origin_in (links_in trees f) p) refl
    ]
      where
        same_origin : ((q : Place) → is_listed trees f q ≡ true → moved_to es q ≡ q) → (o : Option Place) → origin_in (links_in trees f) p ≡ o → o ≡ option_map (moved_to es) o
        same_origin stays None from = refl
        same_origin stays (Some o) from = ap Some (sym (stays o (origin_listed f p o listed from)))

    -- ---- holdings

    held_moved : (p : Place) (e : Entry) → IsWithin limits p → entry_at old p ≡ Some e → moved es p (held_of trees p e) ≡ held_of after (moved_to es p) (entry_moved es p e)
    held_moved p e within stood =
        λ i. record { frame = e.frame; rights = e.rights; status = if sources_of es p then no_rights else e.status; origin = sym (origin_moved e.frame p (sound.kept.fits.listed p e within stood)) i }

    -- what is held there after the move is what is held after all are renamed
    held_after : (p : Place) (e : Entry) → IsWithin limits p → entry_at old p ≡ Some e → at (renamed es before) (moved_to es p) ≡ held_at new after (moved_to es p)
    held_after p e within stood =
        renamed_at es before p (held_of trees p e) lawful_before.sorted moves_apart (present_within limits old trees p within e stood)
        ∙ ap Some (held_moved p e within stood)
        ∙ sym (ap (option_map (held_of after (moved_to es p))) (words.forth p e within stood))

    inside : (q : Place) → IsWithin limits q → at (renamed es before) q ≡ held_at new after q
    inside q within = by (at (renamed es before) q) refl (entry_at new q) refl
      where
        by : (o : Option Held) → at (renamed es before) q ≡ o → (x : Option Entry) → entry_at new q ≡ x → at (renamed es before) q ≡ held_at new after q
        by None none None absent = none ∙ sym (ap (option_map (held_of after q)) absent)
        by None none (Some x) stands =
            let c = words.back q x within stands in
            subst (λ p. at (renamed es before) p ≡ held_at new after p) c.to (held_after c.place c.entry c.within c.stood)
        by (Some k) is x stands =
            let w = renamed_was es before q k lawful_before.sorted is in
            let h = held_entry w.place w.before w.held in
            subst (λ p. at (renamed es before) p ≡ held_at new after p) w.to (held_after w.place h.1.0 h.0 h.1.1)

    outside : (q : Place) → is_place limits q ≡ false → at (renamed es before) q ≡ None
    outside q out = by (at (renamed es before) q) refl
      where
        by : (o : Option Held) → at (renamed es before) q ≡ o → at (renamed es before) q ≡ None
        by None is = is
        by (Some k) is =
            let w = renamed_was es before q k lawful_before.sorted is in
            let h = held_entry w.place w.before w.held in
            absurd (cc (out, place_from_within limits q (subst (IsWithin limits) w.to (moved_within w.place h.0))))

    -- the pages are renamed in the holdings
    pub moved_holdings : holdings_of limits new after ≡ renamed es before
    moved_holdings = listing_is (held_at new after) limits (renamed es before) (renamed_sorted es before) inside outside

    -- ---- words and trees stay sound

    -- an entry has the frame of the one that moved there
    came_entry : (q : Place) (x : Entry) → entry_at new q ≡ Some x → (c : CameFrom limits es old q) → x ≡ entry_moved es c.place c.entry
    came_entry q x is c = same_Some x (entry_moved es c.place c.entry) (sym is ∙ ap (entry_at new) (sym c.to) ∙ words.forth c.place c.entry c.within c.stood)

    frame_after : (q : Place) (x : Entry) → IsWithin limits q → entry_at new q ≡ Some x → x.frame < limits.frames
    frame_after q x within is =
        let c = words.back q x within is in
        subst (λ f. f < limits.frames) (sym (ap (λ (y : Entry). y.frame) (came_entry q x is c))) (sound.kept.fits.frame c.place c.entry c.within c.stood)

    listed_after : (q : Place) (x : Entry) → IsWithin limits q → entry_at new q ≡ Some x → is_listed after x.frame q ≡ true
    listed_after q x within is =
        let c = words.back q x within is in
        subst (λ f. is_listed after f q ≡ true) (sym (ap (λ (y : Entry). y.frame) (came_entry q x is c)))
        (subst (λ p. is_listed after c.entry.frame p ≡ true) c.to (listed_moved c.entry.frame c.place (sound.kept.fits.listed c.place c.entry c.within c.stood)))

    tidy_within : (f : ℕ) (q : Place) → is_listed after f q ≡ true → is_place limits q ≡ true
    tidy_within f q listed =
        let was = was_listed f q listed in
        place_from_within limits q (subst (IsWithin limits) was.2 (moved_within was.0 (held_listed f was.0 was.1).0))

    tidy_held : (f : ℕ) (q : Place) → is_listed after f q ≡ true → has_frame f (entry_at new q) ≡ true
    tidy_held f q listed =
        let was = was_listed f q listed in
        let h = held_listed f was.0 was.1 in
        subst (λ p. has_frame f (entry_at new p) ≡ true) was.2 (ap (has_frame f) (words.forth was.0 h.1.0 h.0 h.1.1) ∙ eq-eqb h.1.0.frame f h.1.2)

    pub moved_sound : IsSound limits new after
    moved_sound = record {
      kept = record {
        fits = record {
          served = sound.kept.fits.served;
          spaces = words.spaces ∙ sound.kept.fits.spaces;
          bits = words.bits ∙ sound.kept.fits.bits;
          present = words.present;
          some = omega (arith, sound.kept.fits.some, words.count);
          count = count ∙ sound.kept.fits.count;
          frame = frame_after;
          listed = listed_after;
        };
        lawful = ap is_lawful moved_holdings ∙ lawful_from (renamed es before) (lawful_renamed es before lawful_before moves_apart);
      };
      pruned = record { within = tidy_within; held = tidy_held };
    }
