-- One frame stripped: its words, and then its tree.
use Rattle.std.proofs.Common.{◌≡◌, ℕ, zero, suc, ◌+◌, ◌-◌, ◌<◌, ◌≤◌, true, false, Bool, ◌||◌, List, [], ◌∷◌, length, drop, take, get_or, filter, Option, Some, None, is_some, refl, sym, ap, ◌∙◌, subst, arith, ◌⊎◌, inl, inr, if◌then◌else◌}
use Rattle.std.specs.List.{All, list_all, list_any, slice_range}
use Rattle.std.specs.Option.{option_and_then}
use Rattle.std.specs.FinMap.Entries.{find}
use Rattle.std.specs.declared.ops.Range.{Range}
use Rattle.std.proofs.lemmas.Bool.{or_cases, or_left, or_right, and_from, false_from_ne_true, eq-eqb, cases_order}
use Rattle.std.proofs.lemmas.List.{length-drop, take_all}
use Rattle.std.proofs.lemmas.List.Folds.{list_all-append}
use Rattle.fpage.specs.declared.rights.Rights.{Rights}
use Rattle.space.specs.declared.place.Place.{Place}
use Rattle.space.specs.declared.place.Entry.{Entry}
use Rattle.space.specs.declared.shards.Shards.{Shards}
use Rattle.space.specs.Place.{place_cmp, same_place}
use Rattle.space.specs.Shards.{spaces_of, bits_of, IsPlace, entry_at}
use Rattle.space.proofs.Places.{same_is, same_self, same_or_apart}
use Rattle.maptree.specs.Origins.{after_origins as after, Origins, Shape, origin_in, place_at, AreRising, LiesInOne, AreOuterRuns}
use Rattle.maptree.specs.Cuts.{outside}
use Rattle.model.specs.Definitions.Holdings.{Held, only, at, is_held, origin_at}
use Rattle.model.specs.Definitions.Derived.{is_below}
use Rattle.model.specs.Definitions.Lawful.{is_lawful}
use Rattle.model.specs.Definitions.Strip.{strip, strip_word}
use Rattle.model.proofs.LawfulParts.{IsLawful, lawful_parts}
use Rattle.model.proofs.Chains.{below_within, in_below, origin_is_held}
use Rattle.model.proofs.Derivations.{below_is_a_chain}
use Rattle.model.proofs.Lookups.{changed, at_each}
use Rattle.model.proofs.StripAt.{stripping}
use Rattle.model.proofs.Narrowings.{not_narrowed}
use Rattle.maptree.proofs.Listed.{listed_at}
use Rattle.holdings.specs.Places.{IsWithin, any_of}
use Rattle.holdings.specs.Inner.Held.{is_place, is_listed, links_in, has_frame, holdings_of, limits_in, holdings_in, has_entry}
use Rattle.holdings.specs.Inner.Stripping.{firsts, AreOfFrame, OriginsHaveEntries, pruned}
use Rattle.holdings.specs.Inner.Sound.{AreSound, AreLoose}
use Rattle.holdings.proofs.Contents.Listing.{within_from_place, place_from_within}
use Rattle.holdings.specs.Inner.Links.{IsTreeSet}
use Rattle.model.specs.Definitions.Records.{are_limits}
use Rattle.holdings.proofs.Contents.Holders.{same_origins, present_within, origin_within}
use Rattle.holdings.proofs.Trees.Chains.{chains_agree, stands, at_among, below_among, entry_held, place_at_drop}
use Rattle.holdings.proofs.Stripping.Walks.{place_any}
use Rattle.holdings.proofs.Stripping.Sequences.{AreStripped, rising_at}
use Rattle.holdings.proofs.Stripping.Outer.{outer_word, outer_strip}
use Rattle.holdings.proofs.Contents.WordChanges.{frame_from, place_kept}
use Rattle.space.proofs.ShardWords.{held_have_words}

-- sound words and trees are loose
pub loose_from : (shards : Shards) (trees : List Shape) → AreSound shards trees → AreLoose shards trees
loose_from shards trees sound = record {
  fits = sound.kept.fits;
  within = sound.pruned.within;
  frames = λ frame p e listed is. let k = frame_from frame (entry_at shards p) (sound.pruned.held frame p listed) in by e k.0 (sym is ∙ k.1) k.2;
  words = λ frame p listed. let k = frame_from frame (entry_at shards p) (sound.pruned.held frame p listed) in held_have_words shards p k.0 k.1;
  lawful = sound.kept.lawful;
}
  where
    by : {frame : ℕ} (e k : Entry) → Some e ≡ Some k → k.frame ≡ frame → e.frame ≡ frame
    by e k same is = cc (same, is)

-- ---- the positions of runs

-- a position in one of the ranges is in a range of the list
in_range : (j : ℕ) (rs : List (Range ℕ)) (d : Range ℕ) → LiesInOne j rs → (k : ℕ) × (k < length rs) × ((get_or rs k d).start ≤ j) × (j < (get_or rs k d).end)
in_range j [] d lies = absurd lies
in_range j (r ∷ rs) d (inl here) = (0, omega arith, here.0, here.1)
in_range j (r ∷ rs) d (inr there) = let later = in_range j rs d there in (suc later.0, omega (arith, later.1), later.2, later.3)

-- what holds of each place outside of the ranges
module _ (test : Place → Bool) (os : Origins) where
  pub all_slice : (a m : ℕ) → ((j : ℕ) (d : Place) → a ≤ j → j < a + m → j < length os → test (place_at os j d) ≡ true) → list_all (λ o. test o.0) (take m (drop a os)) ≡ true
  all_slice a m each = front m (drop a os) (λ i d less within. rw (place_at_drop a os i d) (each (a + i) d (omega arith) (omega (arith, less)) (omega (arith, within, length-drop a os))))
    where
      front : (m : ℕ) (xs : Origins) → ((i : ℕ) (d : Place) → i < m → i < length xs → test (place_at xs i d) ≡ true) → list_all (λ o. test o.0) (take m xs) ≡ true
      front zero xs each = refl
      front (suc m) [] each = refl
      front (suc m) (x ∷ xs) each = and_from _ _ (each 0 x.0 (omega arith) (omega arith)) (front m xs (λ i d less within. each (suc i) d (omega (arith, less)) (omega (arith, within))))

  pub all_outside : (from : ℕ) (rs : List (Range ℕ)) → AreRising from rs (length os) → ((j : ℕ) (d : Place) → from ≤ j → j < length os → (LiesInOne j rs → ⊥) → test (place_at os j d) ≡ true) → list_all (λ o. test o.0) (outside from rs os) ≡ true
  all_outside from [] rise each =
      let size = length-drop from os in
      ap (list_all (λ o. test o.0)) (sym (take_all (length os) (drop from os) (omega (arith, size)))) ∙ all_slice from (length os) (λ j d least less within. each j d least within (λ lies. lies))
  all_outside from (r ∷ rs) rise each =
      list_all-append (λ o. test o.0) (slice_range os from r.start) (outside r.end rs os)
      ∙ and_from _ _ (all_slice from (r.start - from) (λ j d least less within. each j d least within (λ lies. before j (omega (arith, less, least, rise.0)) lies)))
      (all_outside r.end rs rise.2 (λ j d least within out. each j d (omega (arith, least, rise.0, rise.1)) within (λ lies. by j least out lies)))
    where
      behind : (j from : ℕ) (rs : List (Range ℕ)) (most : ℕ) → j < from → AreRising from rs most → LiesInOne j rs → ⊥
      behind j from [] most less rise lies = lies
      behind j from (r ∷ rs) most less rise (inl here) = omega (arith, less, rise.0, here.0)
      behind j from (r ∷ rs) most less rise (inr there) = behind j r.end rs most (omega (arith, less, rise.0, rise.1)) rise.2 there

      before : (j : ℕ) → j < r.start → ((r.start ≤ j) × (j < r.end)) ⊎ LiesInOne j rs → ⊥
      before j less (inl here) = omega (arith, less, here.0)
      before j less (inr there) = behind j r.end rs (length os) (omega (arith, less, rise.1)) rise.2 there

      by : (j : ℕ) → r.end ≤ j → (LiesInOne j rs → ⊥) → ((r.start ≤ j) × (j < r.end)) ⊎ LiesInOne j rs → ⊥
      by j least out (inl here) = omega (arith, least, here.1)
      by j least out (inr there) = out there

-- ---- trees without some places

module _ (keep : Place → Bool) where
  -- what is kept is listed where it was
  pub listed_kept : (os : Origins) (p : Place) → keep p ≡ true → list_any (λ o. same_place p o.0) (filter (λ o. keep o.0) os) ≡ list_any (λ o. same_place p o.0) os
  listed_kept [] p is = refl
  listed_kept (o ∷ os) p is = by (keep o.0) refl (listed_kept os p is)
    where
      by : (b : Bool) → keep o.0 ≡ b → list_any (λ o. same_place p o.0) (filter (λ o. keep o.0) os) ≡ list_any (λ o. same_place p o.0) os
          → list_any (λ o. same_place p o.0) (if b then o ∷ filter (λ o. keep o.0) os else filter (λ o. keep o.0) os) ≡ (same_place p o.0 || list_any (λ o. same_place p o.0) os)
      by true _ rest = ap (λ b. same_place p o.0 || b) rest
      by false gone rest = rest ∙ ap (λ b. b || list_any (λ o. same_place p o.0) os) (sym (false_from_ne_true _ (λ same. cc (is, gone, ap keep (same_is p o.0 same)))))

  -- and has the origin that it had
  pub find_kept : (os : Origins) (p : Place) → keep p ≡ true → find place_cmp p (filter (λ o. keep o.0) os) ≡ find place_cmp p os
  find_kept [] p is = refl
  find_kept (o ∷ os) p is = by (keep o.0) refl (find_kept os p is)
    where
      by : (b : Bool) → keep o.0 ≡ b → find place_cmp p (filter (λ o. keep o.0) os) ≡ find place_cmp p os
          → find place_cmp p (if b then o ∷ filter (λ o. keep o.0) os else filter (λ o. keep o.0) os) ≡ (if same_place p o.0 then Some o.1 else find place_cmp p os)
      by true _ rest = ap (λ k. if same_place p o.0 then Some o.1 else k) rest
      by false gone rest =
          let other : same_place p o.0 ≡ false = false_from_ne_true _ (λ same. cc (is, gone, ap keep (same_is p o.0 same))) in
          rw other rest

  -- what is listed is kept and was listed
  pub kept_listed : (os : Origins) (p : Place) → list_any (λ o. same_place p o.0) (filter (λ o. keep o.0) os) ≡ true → (keep p ≡ true) × (list_any (λ o. same_place p o.0) os ≡ true)
  kept_listed [] p listed = absurd (cc listed)
  kept_listed (o ∷ os) p listed = by (keep o.0) refl listed (kept_listed os p)
    where
      by : (b : Bool) → keep o.0 ≡ b → list_any (λ o. same_place p o.0) (if b then o ∷ filter (λ o. keep o.0) os else filter (λ o. keep o.0) os) ≡ true
          → (list_any (λ o. same_place p o.0) (filter (λ o. keep o.0) os) ≡ true → (keep p ≡ true) × (list_any (λ o. same_place p o.0) os ≡ true)) → (keep p ≡ true) × ((same_place p o.0 || list_any (λ o. same_place p o.0) os) ≡ true)
      by true is listed rest = here (or_cases (same_place p o.0) (list_any (λ o. same_place p o.0) (filter (λ o. keep o.0) os)) listed)
        where
          here : (same_place p o.0 ≡ true) ⊎ (list_any (λ o. same_place p o.0) (filter (λ o. keep o.0) os) ≡ true) → (keep p ≡ true) × ((same_place p o.0 || list_any (λ o. same_place p o.0) os) ≡ true)
          here (inl same) = (ap keep (same_is p o.0 same) ∙ is, or_left _ _ same)
          here (inr there) = let later = rest there in (later.0, or_right _ _ later.1)
      by false is listed rest = let later = rest listed in (later.0, or_right _ _ later.1)

-- what is held has a word
pub entry_of_held : (shards : Shards) (trees : List Shape) → AreLoose shards trees → (p : Place) → is_held (holdings_in shards trees) p ≡ true → has_entry shards p ≡ true
entry_of_held shards trees loose p held = by (at (holdings_in shards trees) p) refl held
  where
    by : (m : Option Held) → at (holdings_in shards trees) p ≡ m → is_some m ≡ true → has_entry shards p ≡ true
    by None is some = absurd (cc some)
    by (Some m) is some = ap is_some (entry_held shards trees loose p m is).1.1

-- with a place its origin has an entry
pub origins_with_places : (now : Shards) (trees : List Shape) → AreLoose now trees → (frame : ℕ) → OriginsHaveEntries now (links_in trees frame)
origins_with_places now trees loose frame p o is has =
    let listed = origin_listed (links_in trees frame) p o is in
    let inside = within_from_place (limits_in now trees) p (loose.within frame p listed) in
    let e = entry_of_place (entry_at now p) has in
    let same_frame = loose.frames frame p e.0 listed e.1 in
    let origin : origin_at (holdings_in now trees) p ≡ Some o = origin_within (limits_in now trees) now trees p inside e.0 e.1 ∙ ap (λ n. origin_in (links_in trees n) p) same_frame ∙ is in
    entry_of_held now trees loose o (origin_is_held (holdings_in now trees) (lawful_parts (holdings_in now trees) loose.lawful) p o origin)
  where
    entry_of_place : (k : Option Entry) → is_some k ≡ true → (e : Entry) × (k ≡ Some e)
    entry_of_place None has = absurd (cc has)
    entry_of_place (Some e) has = (e, refl)

    origin_listed : (os : Origins) (p o : Place) → origin_in os p ≡ Some o → list_any (λ x. same_place p x.0) os ≡ true
    origin_listed [] p o is = absurd (cc is)
    origin_listed (x ∷ os) p o is = by (same_or_apart p x.0) (origin_listed os p o)
      where
        by : (p ≡ x.0) ⊎ (same_place p x.0 ≡ false) → (origin_in os p ≡ Some o → list_any (λ x. same_place p x.0) os ≡ true) → (same_place p x.0 || list_any (λ x. same_place p x.0) os) ≡ true
        by (inl same) rest = or_left _ _ (subst (λ q. same_place p q ≡ true) same (same_self p))
        by (inr apart) rest = or_right _ _ (rest (rw apart at is))

-- ---- the outermost runs stand for the named places

module _ (shards : Shards) (trees : List Shape) (sound : AreSound shards trees) (frame : ℕ) (places : List Place) (of_frame : AreOfFrame shards trees frame places) (runs : List (Range ℕ)) (outer : AreOuterRuns (links_in trees frame) places runs) where
  loose : AreLoose shards trees
  loose = loose_from shards trees sound

  lawful : IsLawful (holdings_in shards trees)
  lawful = lawful_parts (holdings_in shards trees) sound.kept.lawful

  -- the first places are named
  pub first_named : (q : Place) → any_of (firsts (links_in trees frame) runs) q ≡ true → any_of places q ≡ true
  first_named q is = named runs outer.named is
    where
      named : (rs : List (Range ℕ)) → ((k : ℕ) (e : Range ℕ) → k < length rs → (d : Place) → list_any (same_place (place_at (links_in trees frame) (get_or rs k e).start d)) places ≡ true)
          → any_of (firsts (links_in trees frame) rs) q ≡ true → any_of places q ≡ true
      named [] all is = absurd (cc is)
      named (r ∷ rs) all is = by (or_cases (same_place q (place_at (links_in trees frame) r.start (record { space = 0; page = 0 }))) (any_of (firsts (links_in trees frame) rs) q) is) (named rs (λ k e w. all (suc k) e (omega (arith, w))))
        where
          by : (same_place q (place_at (links_in trees frame) r.start (record { space = 0; page = 0 })) ≡ true) ⊎ (any_of (firsts (links_in trees frame) rs) q ≡ true) → (any_of (firsts (links_in trees frame) rs) q ≡ true → any_of places q ≡ true) → any_of places q ≡ true
          by (inl same) rest = subst (λ p. any_of places p ≡ true) (sym (same_is q _ same)) (all 0 r (omega arith) (record { space = 0; page = 0 }))
          by (inr there) rest = rest there

  -- what stands in a run is below the first places
  in_run_below : (k : ℕ) (d : Range ℕ) → k < length runs → (p : Place) (e : Entry) → IsWithin (limits_in shards trees) p → entry_at shards p ≡ Some e
      → (j : ℕ) → (get_or runs k d).start ≤ j → j < (get_or runs k d).end → j < length (links_in trees frame) → place_at (links_in trees frame) j p ≡ p
      → is_below (holdings_in shards trees) (any_of (firsts (links_in trees frame) runs)) p ≡ true
  in_run_below k d within_k p e within is j least less within_j here =
      let run = get_or runs k d in
      let bounds = rising_at 0 runs (length (links_in trees frame)) k d outer.rising within_k in
      let within_start : run.start < length (links_in trees frame) = omega (arith, bounds.0, bounds.1) in
      let c = place_at (links_in trees frame) run.start (record { space = 0; page = 0 }) in
      let first : (x : Place) → place_at (links_in trees frame) run.start x ≡ c = λ x. place_any (links_in trees frame) run.start x (record { space = 0; page = 0 }) within_start in
      let below : is_below (holdings_in shards trees) (only c) p ≡ true =
      below_among shards trees loose frame run (outer.whole k d within_k) bounds.0 bounds.1 c first p e within is
      ∙ subst (λ q. list_any (λ o. same_place q o.0) (slice_range (links_in trees frame) run.start run.end) ≡ true) here (at_among (links_in trees frame) run.start run.end j p least less within_j) in
      below_within (holdings_in shards trees) lawful (only c) (any_of (firsts (links_in trees frame) runs))
      (λ q same. in_below (holdings_in shards trees) lawful (any_of (firsts (links_in trees frame) runs)) q
      (subst (λ x. any_of (firsts (links_in trees frame) runs) x ≡ true) (same_is c q same) (first_is runs k within_k))) p below
    where
      first_is : (rs : List (Range ℕ)) (k : ℕ) → k < length rs → any_of (firsts (links_in trees frame) rs) (place_at (links_in trees frame) (get_or rs k d).start (record { space = 0; page = 0 })) ≡ true
      first_is [] k w = absurd (omega (arith, w))
      first_is (r ∷ rs) zero w = rw (same_self (place_at (links_in trees frame) r.start (record { space = 0; page = 0 }))) refl
      first_is (r ∷ rs) (suc k) w = or_right _ _ (first_is rs k (omega (arith, w)))

  -- each named place that is held is below the first places
  pub covered : (q : Place) → is_held (holdings_in shards trees) q ≡ true → any_of places q ≡ true → is_below (holdings_in shards trees) (any_of (firsts (links_in trees frame) runs)) q ≡ true
  covered q held named = by (at (holdings_in shards trees) q) refl held
    where
      by : (m : Option Held) → at (holdings_in shards trees) q ≡ m → is_some m ≡ true → is_below (holdings_in shards trees) (any_of (firsts (links_in trees frame) runs)) q ≡ true
      by None none some = absurd (cc some)
      by (Some m) is some =
          let e = entry_held shards trees loose q m is in
          let frame_is = of_frame q e.1.0 named (place_from_within (limits_in shards trees) q e.0) e.1.1 in
          let listed : is_listed trees frame q ≡ true = subst (λ f. is_listed trees f q ≡ true) frame_is (sound.kept.fits.listed q e.1.0 e.0 e.1.1) in
          let j = stands (links_in trees frame) q q listed in
          let lies = (outer.covers j.0 q j.1).1 (record { named = q; among = named; leads = record { origins = 0; enough = omega arith; leads = ap Some j.2 } }) in
          let k = in_range j.0 runs (record { start = 0; end = 0 }) lies in
          in_run_below k.0 (record { start = 0; end = 0 }) k.1 q e.1.0 e.0 e.1.1 j.0 k.2 k.3 j.1 j.2

  pub frame_word : strip_word (holdings_in shards trees) (any_of (firsts (links_in trees frame) runs)) ≡ strip_word (holdings_in shards trees) (any_of places)
  frame_word = outer_word (holdings_in shards trees) lawful _ _ first_named covered

  pub frame_strip : (a : Rights) (f : Bool) → strip (holdings_in shards trees) (any_of (firsts (links_in trees frame) runs)) a f ≡ strip (holdings_in shards trees) (any_of places) a f
  frame_strip a f = outer_strip (holdings_in shards trees) lawful _ _ first_named covered a f

  -- ---- after the words, the tree

  module _ (a : Rights) (f : Bool) (now : Shards) (status : Rights) (done : AreStripped shards trees (firsts (links_in trees frame) runs) a f now status) where
    limits_same : limits_in now trees ≡ limits_in shards trees
    limits_same = ap (λ n. (record { spaces = n; bits = bits_of now; frames = length trees })) done.layout.spaces ∙ ap (λ b. (record { spaces = spaces_of shards; bits = b; frames = length trees })) done.layout.bits

    -- a place of the tree has a word
    pub tree_places : All (λ o. IsPlace now o.0) (links_in trees frame)
    tree_places = λ k d within.
        let p = place_at (links_in trees frame) k (get_or (links_in trees frame) k d).0 in
        let inside = within_from_place (limits_in shards trees) p (sound.pruned.within frame p (listed_at (links_in trees frame) k (get_or (links_in trees frame) k d).0 within)) in
        subst (IsPlace now) (place_read (links_in trees frame) k d within) (place_kept shards now done.layout p (record { space = inside.space; page = inside.page }))
      where
        place_read : (os : Origins) (k : ℕ) (d : Place × Option Place) → k < length os → place_at os k (get_or os k d).0 ≡ (get_or os k d).0
        place_read [] k d within = absurd (omega (arith, within))
        place_read (o ∷ os) zero d within = refl
        place_read (o ∷ os) (suc k) d within = place_read os k d (omega (arith, within))

    -- what is held has a word
    held_entry : (p : Place) → is_held (holdings_in now trees) p ≡ true → has_entry now p ≡ true
    held_entry = entry_of_held now trees done.loose

    -- outside of the runs nothing is lost
    pub outside_held : list_all (λ o. has_entry now o.0) (outside 0 runs (links_in trees frame)) ≡ true
    outside_held = all_outside (has_entry now) (links_in trees frame) 0 runs outer.rising (λ j d least within out. stays (place_at (links_in trees frame) j d) j d within refl out)
      where
        stays : (p : Place) (j : ℕ) (d : Place) → j < length (links_in trees frame) → place_at (links_in trees frame) j d ≡ p → (LiesInOne j runs → ⊥) → has_entry now p ≡ true
        stays p j d within here out =
            let listed : is_listed trees frame p ≡ true = subst (λ q. is_listed trees frame q ≡ true) here (listed_at (links_in trees frame) j d within) in
            let inside = within_from_place (limits_in shards trees) p (sound.pruned.within frame p listed) in
            let e = frame_from frame (entry_at shards p) (sound.pruned.held frame p listed) in
            let held = present_within (limits_in shards trees) shards trees p inside e.0 e.1 in
            let not_below : is_below (holdings_in shards trees) (any_of (firsts (links_in trees frame) runs)) p ≡ false = false_from_ne_true _ (λ below. out (lies p j d within here below)) in
            let left = at_each (stripping (holdings_in shards trees) (any_of (firsts (links_in trees frame) runs)) a f) (holdings_in shards trees) p lawful.sorted in
            let kept = not_narrowed (holdings_in shards trees) (any_of (firsts (links_in trees frame) runs)) f p not_below in
            held_entry p (ap is_some (ap (λ h. at h p) done.left ∙ left ∙ ap (changed (stripping (holdings_in shards trees) (any_of (firsts (links_in trees frame) runs)) a f) p) held) ∙ rw kept refl)
          where
            lies : (p : Place) (j : ℕ) (d : Place) → j < length (links_in trees frame) → place_at (links_in trees frame) j d ≡ p → is_below (holdings_in shards trees) (any_of (firsts (links_in trees frame) runs)) p ≡ true → LiesInOne j runs
            lies p j d within here below =
                let listed : is_listed trees frame p ≡ true = subst (λ q. is_listed trees frame q ≡ true) here (listed_at (links_in trees frame) j d within) in
                let inside = within_from_place (limits_in shards trees) p (sound.pruned.within frame p listed) in
                let e = frame_from frame (entry_at shards p) (sound.pruned.held frame p listed) in
                let chain = (below_is_a_chain (holdings_in shards trees) sound.kept.lawful (any_of (firsts (links_in trees frame) runs)) p).0 below in
                let agree = chains_agree shards trees loose chain.origins p e.0 inside e.1 in
                let leads : after chain.origins (links_in trees frame) p ≡ Some chain.into = ap (λ n. after chain.origins (links_in trees n) p) (sym e.2) ∙ sym agree.0 ∙ chain.leads in
                (outer.covers j d within).1 (record { named = chain.into; among = first_named chain.into chain.within; leads = record { origins = chain.origins; enough = omega arith; leads = subst (λ q. after chain.origins (links_in trees frame) q ≡ Some chain.into) (sym here) leads } })

    -- with a place its origin stays
    pub origins_stay : OriginsHaveEntries now (links_in trees frame)
    origins_stay = origins_with_places now trees done.loose frame

    -- ---- the pruned tree

    module _ (new : List Shape) (set : IsTreeSet trees new frame (pruned now (links_in trees frame))) where
      tree_there : (g : ℕ) → (g ≡ frame) ⊎ (g ≡ frame → ⊥) → (p : Place) → has_entry now p ≡ true → (is_listed new g p ≡ is_listed trees g p) × (origin_in (links_in new g) p ≡ origin_in (links_in trees g) p)
      tree_there g (inl same) p has =
          let links : links_in new g ≡ pruned now (links_in trees g) = ap (links_in new) same ∙ set.there ∙ ap (λ n. pruned now (links_in trees n)) (sym same) in
          (ap (λ os. list_any (λ o. same_place p o.0) os) links ∙ listed_kept (has_entry now) (links_in trees g) p has, ap (λ os. origin_in os p) links ∙ ap (option_and_then (λ o. o)) (find_kept (has_entry now) (links_in trees g) p has))
      tree_there g (inr apart) p has = let links = set.elsewhere g apart in (ap (λ os. list_any (λ o. same_place p o.0) os) links, ap (λ os. origin_in os p) links)

      or_not : (g : ℕ) → (g ≡ frame) ⊎ (g ≡ frame → ⊥)
      or_not g = by (cases_order g frame)
        where
          by : (g ≡ frame) ⊎ ((g < frame) ⊎ (frame < g)) → (g ≡ frame) ⊎ (g ≡ frame → ⊥)
          by (inl same) = inl same
          by (inr (inl less)) = inr (λ same. omega (arith, less, same))
          by (inr (inr more)) = inr (λ same. omega (arith, more, same))

      limits_new : limits_in now new ≡ limits_in now trees
      limits_new = ap (λ n. (record { spaces = spaces_of now; bits = bits_of now; frames = n })) set.count

      -- what is listed was listed, and has a word where its tree was pruned
      was_listed : (g : ℕ) (p : Place) → is_listed new g p ≡ true → (is_listed trees g p ≡ true) × (has_frame g (entry_at now p) ≡ true)
      was_listed g p listed = by (or_not g)
        where
          framed : (g : ℕ) (p : Place) → is_listed trees g p ≡ true → (k : Option Entry) → entry_at now p ≡ k → is_some k ≡ true → has_frame g k ≡ true
          framed g p listed None is has = absurd (cc has)
          framed g p listed (Some e) is has = eq-eqb e.frame g (done.loose.frames g p e listed is)

          by : (g ≡ frame) ⊎ (g ≡ frame → ⊥) → (is_listed trees g p ≡ true) × (has_frame g (entry_at now p) ≡ true)
          by (inl same) =
              let links : links_in new g ≡ pruned now (links_in trees g) = ap (links_in new) same ∙ set.there ∙ ap (λ n. pruned now (links_in trees n)) (sym same) in
              let kept = kept_listed (has_entry now) (links_in trees g) p (sym (ap (λ os. list_any (λ o. same_place p o.0) os) links) ∙ listed) in
              (kept.1, framed g p kept.1 (entry_at now p) refl kept.0)
          by (inr apart) =
              let before : is_listed trees g p ≡ true = sym (ap (λ os. list_any (λ o. same_place p o.0) os) (set.elsewhere g apart)) ∙ listed in
              let inside = within_from_place (limits_in shards trees) p (sound.pruned.within g p before) in
              let e = frame_from g (entry_at shards p) (sound.pruned.held g p before) in
              let held = present_within (limits_in shards trees) shards trees p inside e.0 e.1 in
              let not_below : is_below (holdings_in shards trees) (any_of (firsts (links_in trees frame) runs)) p ≡ false = false_from_ne_true _ (λ below. apart (below_frame p e.0 inside e.1 e.2 below)) in
              let left = at_each (stripping (holdings_in shards trees) (any_of (firsts (links_in trees frame) runs)) a f) (holdings_in shards trees) p lawful.sorted in
              let kept = not_narrowed (holdings_in shards trees) (any_of (firsts (links_in trees frame) runs)) f p not_below in
              let has = held_entry p (ap is_some (ap (λ h. at h p) done.left ∙ left ∙ ap (changed (stripping (holdings_in shards trees) (any_of (firsts (links_in trees frame) runs)) a f) p) held) ∙ rw kept refl) in
              (before, framed g p before (entry_at now p) refl has)
            where
              below_frame : (p : Place) (e : Entry) → IsWithin (limits_in shards trees) p → entry_at shards p ≡ Some e → e.frame ≡ g → is_below (holdings_in shards trees) (any_of (firsts (links_in trees frame) runs)) p ≡ true → g ≡ frame
              below_frame p e inside is same below =
                  let chain = (below_is_a_chain (holdings_in shards trees) sound.kept.lawful (any_of (firsts (links_in trees frame) runs)) p).0 below in
                  let agree = chains_agree shards trees loose chain.origins p e inside is in
                  let last = agree.1 chain.into chain.leads in
                  let first = first_at runs (λ k w. let bounds = rising_at 0 runs (length (links_in trees frame)) k (record { start = 0; end = 0 }) outer.rising w in omega (arith, bounds.0, bounds.1)) chain.into chain.within in
                  sym same ∙ sym last.2 ∙ loose.frames frame chain.into last.0 first last.1
                where
                  first_at : (rs : List (Range ℕ)) → ((k : ℕ) → k < length rs → (get_or rs k (record { start = 0; end = 0 })).start < length (links_in trees frame)) → (q : Place) → any_of (firsts (links_in trees frame) rs) q ≡ true → is_listed trees frame q ≡ true
                  first_at [] within q is = absurd (cc is)
                  first_at (r ∷ rs) within q is = by_first (or_cases (same_place q (place_at (links_in trees frame) r.start (record { space = 0; page = 0 }))) (any_of (firsts (links_in trees frame) rs) q) is) (first_at rs (λ k w. within (suc k) (omega (arith, w))) q)
                    where
                      by_first : (same_place q (place_at (links_in trees frame) r.start (record { space = 0; page = 0 })) ≡ true) ⊎ (any_of (firsts (links_in trees frame) rs) q ≡ true) → (any_of (firsts (links_in trees frame) rs) q ≡ true → is_listed trees frame q ≡ true) → is_listed trees frame q ≡ true
                      by_first (inl same) rest = subst (λ x. is_listed trees frame x ≡ true) (sym (same_is q _ same)) (listed_at (links_in trees frame) r.start (record { space = 0; page = 0 }) (within 0 (omega arith)))
                      by_first (inr there) rest = rest there

      -- the same is held
      same_held : holdings_in now new ≡ holdings_in now trees
      same_held = ap (λ l. holdings_of l now new) limits_new ∙ same_origins (limits_in now trees) now trees new (λ p e within is. (tree_there e.frame (or_not e.frame) p (ap is_some is)).1)

      pub frame_left : holdings_in now new ≡ strip (holdings_in shards trees) (any_of places) a f
      frame_left = same_held ∙ done.left ∙ frame_strip a f

      pub frame_status : status ≡ strip_word (holdings_in shards trees) (any_of places)
      frame_status = done.word ∙ frame_word

      pub frame_sound : AreSound now new
      frame_sound = record {
        kept = record {
          fits = record {
            served = subst (λ l. are_limits l ≡ true) (sym limits_new) done.loose.fits.served;
            spaces = refl;
            bits = refl;
            present = done.loose.fits.present;
            some = done.loose.fits.some;
            count = refl;
            frame = λ p e within is. subst (λ n. e.frame < n) (sym set.count) (done.loose.fits.frame p e (subst (λ l. IsWithin l p) limits_new within) is);
            listed = λ p e within is. (tree_there e.frame (or_not e.frame) p (ap is_some is)).0 ∙ done.loose.fits.listed p e (subst (λ l. IsWithin l p) limits_new within) is;
          };
          lawful = ap is_lawful same_held ∙ done.loose.lawful;
        };
        pruned = record {
          within = λ g p listed. subst (λ l. is_place l p ≡ true) (sym limits_new) (done.loose.within g p (was_listed g p listed).0);
          held = λ g p listed. (was_listed g p listed).1;
        };
      }

      pub frame_limits : limits_in now new ≡ limits_in shards trees
      frame_limits = limits_new ∙ limits_same
