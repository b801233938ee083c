-- A walk over a run strips its first place.
use Rattle.std.proofs.Common.{◌≡◌, ℕ, zero, suc, ◌+◌, ◌-◌, ◌<◌, ◌≤◌, true, false, Bool, ◌&&◌, ◌||◌, not, List, [], ◌∷◌, length, drop, take, get_or, Option, Some, None, refl, sym, ap, ◌∙◌, subst, arith, ◌⊎◌, inl, inr, if◌then◌else◌}
use Rattle.std.specs.Prelude.{IsFalse}
use Rattle.std.specs.List.{All, list_any, list_all}
use Rattle.std.specs.Option.{option_and_then, option_map, option_map_or}
use Rattle.std.specs.declared.ops.Range.{Range}
use Rattle.std.proofs.lemmas.Bool.{and_parts, or_cases, or_left, or_right, false_from_ne_true}
use Rattle.fpage.specs.Rights.{no_rights, is_empty, join, has}
use Rattle.fpage.specs.declared.rights.Rights.{Rights}
use Rattle.fpage.specs.declared.rights.Access.{Access}
use Rattle.fpage.proofs.RightSets.{has-join, has-none, same_elements, join_nothing}
use Rattle.space.specs.declared.place.Place.{Place}
use Rattle.space.specs.declared.place.Entry.{Entry}
use Rattle.space.specs.declared.shards.Shards.{Shards}
use Rattle.space.specs.Place.{same_place}
use Rattle.space.specs.Shards.{spaces_of, bits_of, IsPlace, IsSetAt, IsLaidOutAs, entry_at, is_taken}
use Rattle.space.proofs.Places.{same_is, same_self, same_or_apart, apart_back}
use Rattle.maptree.specs.Origins.{Origins, Shape, are_once, origin_in, place_at, IsRun}
use Rattle.model.specs.Definitions.Holdings.{Held, Holdings, PlaceSet, only, at, is_held, origin_at, each}
use Rattle.model.specs.Definitions.Derived.{is_under, is_below}
use Rattle.model.specs.Definitions.Strip.{rights_left, left_of, status_over, strip_word, strip, is_narrowed}
use Rattle.model.proofs.Lookups.{changed}
use Rattle.model.proofs.LawfulParts.{IsLawful, lawful_parts, lawful_from}
use Rattle.model.proofs.Chains.{below_unheld, under_self}
use Rattle.model.proofs.StatusSums.{HasStatus, over_has, over_from}
use Rattle.model.proofs.StripAt.{lawful_strip}
use Rattle.model.proofs.StripUnions.{word_nothing}
use Rattle.model.proofs.Narrowings.{narrowed_to}
use Rattle.model.proofs.Clearings.{clear, clearing, clearing_outside}
use Rattle.model.specs.Definitions.Recursion.{Visited}
use Rattle.std.specs.Option.{is_some}
use Rattle.model.proofs.Recursions.{passing, passed_is}
use Rattle.model.specs.Definitions.Lawful.{is_lawful}
use Rattle.model.specs.Definitions.Records.{are_limits}
use Rattle.std.proofs.lemmas.Option.{same_Some}
use Rattle.maptree.proofs.Listed.{listed_at}
use Rattle.holdings.specs.Places.{IsWithin}
use Rattle.holdings.specs.Inner.Held.{is_place, is_listed, links_in, held_of, held_at, holdings_of, limits_in, holdings_in}
use Rattle.space.specs.Entries.{narrowed, status_of, with_status}
use Rattle.holdings.specs.Inner.Sound.{AreLoose}
use Rattle.holdings.proofs.Contents.Listing.{listing_each, within_from_place}
use Rattle.space.specs.Directory.{pages_of}
use Rattle.std.proofs.lemmas.List.{length-drop}
use Rattle.std.proofs.Math.Bool.{or-false}
use Rattle.holdings.proofs.Contents.Holders.{held_within, absent_within, origin_within}
use Rattle.holdings.proofs.Trees.Chains.{is_among, among_at, place_at_drop, below_among, entry_held}
use Rattle.holdings.proofs.Contents.WordChanges.{place_kept, word_kept}
use Rattle.holdings.specs.Inner.Words.{IsThere}

-- ---- unions of status

-- over one place more
pub over_more : (h : Holdings) (sorted : IsLawful h) (X Y : PlaceSet) (q : Place) → ((p : Place) → Y p ≡ (X p || same_place p q)) → status_over Y h ≡ join (status_over X h) (option_map_or (λ m. m.status) (at h q) no_rights)
over_more h l X Y q one = same_elements _ _ there back
  where
    there : (b : Access) → has (status_over Y h) b ≡ true → has (join (status_over X h) (option_map_or (λ m. m.status) (at h q) no_rights)) b ≡ true
    there b bit =
        let s = over_from Y b h l.sorted bit in
        has-join (status_over X h) (option_map_or (λ m. m.status) (at h q) no_rights) b ∙ by s (or_cases (X s.place) (same_place s.place q) (sym (one s.place) ∙ s.within))
      where
        by : (s : HasStatus h Y b) → (X s.place ≡ true) ⊎ (same_place s.place q ≡ true) → (has (status_over X h) b || has (option_map_or (λ m. m.status) (at h q) no_rights) b) ≡ true
        by s (inl in_x) = or_left _ _ (over_has X b h s.place s.held s.is in_x s.bit)
        by s (inr same) =
            let here : at h q ≡ Some s.held = ap (at h) (sym (same_is s.place q same)) ∙ s.is in
            or_right _ _ (ap (λ o. has (option_map_or (λ m. m.status) o no_rights) b) here ∙ s.bit)

    back : (b : Access) → has (join (status_over X h) (option_map_or (λ m. m.status) (at h q) no_rights)) b ≡ true → has (status_over Y h) b ≡ true
    back b bit = by (or_cases (has (status_over X h) b) (has (option_map_or (λ m. m.status) (at h q) no_rights) b) (sym (has-join (status_over X h) (option_map_or (λ m. m.status) (at h q) no_rights) b) ∙ bit))
      where
        held : (o : Option Held) → at h q ≡ o → has (option_map_or (λ m. m.status) o no_rights) b ≡ true → has (status_over Y h) b ≡ true
        held None is bit = absurd (cc (bit, has-none b))
        held (Some m) is bit = over_has Y b h q m is (one q ∙ or_right (X q) (same_place q q) (same_self q)) bit

        by : (has (status_over X h) b ≡ true) ⊎ (has (option_map_or (λ m. m.status) (at h q) no_rights) b ≡ true) → has (status_over Y h) b ≡ true
        by (inl bit) = let s = over_from X b h l.sorted bit in over_has Y b h s.place s.held s.is (one s.place ∙ or_left (X s.place) (same_place s.place q) s.within) s.bit
        by (inr bit) = held (at h q) refl bit

-- over sets that have the same held places
over_same : (h : Holdings) → IsLawful h → (X Y : PlaceSet) → ((p : Place) (m : Held) → at h p ≡ Some m → X p ≡ Y p) → status_over X h ≡ status_over Y h
over_same h l X Y same = same_elements _ _
    (λ b bit. let s = over_from X b h l.sorted bit in over_has Y b h s.place s.held s.is (sym (same s.place s.held s.is) ∙ s.within) s.bit)
    (λ b bit. let s = over_from Y b h l.sorted bit in over_has X b h s.place s.held s.is (same s.place s.held s.is ∙ s.within) s.bit)

-- over nothing
pub over_none : (h : Holdings) → IsLawful h → (X : PlaceSet) → ((p : Place) → X p ≡ false) → status_over X h ≡ no_rights
over_none h l X none = same_elements _ _ (λ b bit. let s = over_from X b h l.sorted bit in absurd (cc (s.within, none s.place))) (λ b bit. absurd (cc (bit, has-none b)))

-- ---- one step

take_one : (p : Place) (m : ℕ) (os : Origins) (d : Place) → m < length os → list_any (λ o. same_place p o.0) (take (suc m) os) ≡ (list_any (λ o. same_place p o.0) (take m os) || same_place p (place_at os m d))
take_one p m [] d within = absurd (omega (arith, within))
take_one p zero (o ∷ os) d within = last (same_place p o.0)
  where
    last : (b : Bool) → (b || false) ≡ (false || b)
    last b = grind arith
take_one p (suc m) (o ∷ os) d within = ap (λ b. same_place p o.0 || b) (take_one p m os d (omega (arith, within))) ∙ regroup (same_place p o.0) _ _
  where
    regroup : (x y z : Bool) → (x || (y || z)) ≡ ((x || y) || z)
    regroup x y z = grind arith

-- a place of the list is the next one, or was there before
pub among_more : (os : Origins) (a i : ℕ) (p d : Place) → a ≤ i → i < length os → is_among os a (i + 1) p ≡ (is_among os a i p || same_place p (place_at os i d))
among_more os a i p d least within =
    let size = length-drop a os in
    let one : i + 1 - a ≡ suc (i - a) = omega (arith, least) in
    let whole : a + (i - a) ≡ i = omega (arith, least) in
    ap (λ n. list_any (λ (o : Place × Option Place). same_place p o.0) (take n (drop a os))) one ∙ take_one p (i - a) (drop a os) d (omega (arith, size, within, least))
    ∙ ap (λ q. is_among os a i p || same_place p q) (place_at_drop a os (i - a) d ∙ ap (λ j. place_at os j d) whole)

-- what a place has after the walk has come so far
abbrev pub walked : Bool → Bool → Rights → Option Entry → Option Entry
walked done loses a entry = if done then option_and_then (narrowed loses a) entry else entry

-- these places have lost, the others are as they were
pub record AreTaken (old : Shards) (trees : List Shape) (c : Place) (a : Rights) (f : Bool) (done : PlaceSet) (now : Shards) (status : Rights) : Type 0 where
  pub layout : IsLaidOutAs old now
  pub present : IsFalse (is_taken now)
  pub entries : (p : Place) → IsPlace old p → entry_at now p ≡ walked (done p) (f || not (same_place p c)) a (entry_at old p)
  pub gathered : status ≡ status_over done (holdings_in old trees)

-- the walk so far: the places before have lost
abbrev pub IsWalked : Shards → List Shape → ℕ → ℕ → Place → Rights → Bool → ℕ → Shards → Rights → Type 0
IsWalked old trees frame start c a f i now status = AreTaken old trees c a f (is_among (links_in trees frame) start i) now status

module _ (old : Shards) (trees : List Shape) (loose : AreLoose old trees) (c : Place) (a : Rights) (f : Bool) where
  -- what a place within the limits has is what is held there
  pub status_held : (q : Place) → IsPlace old q → option_map_or (λ m. m.status) (at (holdings_in old trees) q) no_rights ≡ status_of (entry_at old q)
  status_held q place = ap (λ o. option_map_or (λ (m : Held). m.status) o no_rights) (held_within (limits_in old trees) old trees q (record { space = place.space; page = place.page })) ∙ by (entry_at old q)
    where
      by : (o : Option Entry) → option_map_or (λ (m : Held). m.status) (option_map (held_of trees q) o) no_rights ≡ status_of o
      by None = refl
      by (Some e) = refl

  -- before the first place
  pub none_taken : (done : PlaceSet) → ((p : Place) → done p ≡ false) → AreTaken old trees c a f done old no_rights
  none_taken done none = record {
    layout = record { spaces = refl; bits = refl; count = refl; index = λ p. refl };
    present = loose.fits.present;
    entries = λ p place. rw (none p) refl;
    gathered = sym (over_none (holdings_in old trees) (lawful_parts (holdings_in old trees) loose.lawful) done none);
  }

  -- the same places
  pub same_taken : (done done' : PlaceSet) (now : Shards) (status : Rights) → ((p : Place) → done p ≡ done' p) → AreTaken old trees c a f done now status → AreTaken old trees c a f done' now status
  same_taken done done' now status same taken = record {
    layout = taken.layout;
    present = taken.present;
    entries = λ p place. taken.entries p place ∙ ap (λ b. walked b (f || not (same_place p c)) a (entry_at old p)) (same p);
    gathered = taken.gathered ∙ over_same (holdings_in old trees) (lawful_parts (holdings_in old trees) loose.lawful) done done' (λ p m held. same p);
  }

  -- one place more
  pub one_taken : (done done' : PlaceSet) (now next : Shards) (status more : Rights) (q : Place) (loses : Bool) → AreTaken old trees c a f done now status
      → IsPlace old q → done q ≡ false → ((p : Place) → done' p ≡ (done p || same_place p q))
      → loses ≡ (f || not (same_place q c)) → more ≡ status_of (entry_at now q) → IsSetAt now next q (option_and_then (narrowed loses a) (entry_at now q)) → IsFalse (is_taken next) → IsLaidOutAs now next
      → AreTaken old trees c a f done' next (join status more)
  one_taken done done' now next status more q loses so_far q_place was_not one_more loses_is more_is set present layout =
      let stood : entry_at now q ≡ entry_at old q = so_far.entries q q_place ∙ rw was_not refl in
      record {
        layout = record { spaces = layout.spaces ∙ so_far.layout.spaces; bits = layout.bits ∙ so_far.layout.bits; count = layout.count ∙ so_far.layout.count; index = λ p. layout.index p ∙ so_far.layout.index p };
        present = present;
        entries = λ p p_place. entry p p_place stood (same_or_apart p q);
        gathered = ap (λ r. join r more) so_far.gathered ∙ ap (join (status_over done (holdings_in old trees))) (more_is ∙ ap status_of stood ∙ sym (status_held q q_place))
            ∙ sym (over_more (holdings_in old trees) (lawful_parts (holdings_in old trees) loose.lawful) done done' q one_more);
      }
    where
      entry : (p : Place) → IsPlace old p → entry_at now q ≡ entry_at old q → (p ≡ q) ⊎ (same_place p q ≡ false) → entry_at next p ≡ walked (done' p) (f || not (same_place p c)) a (entry_at old p)
      entry p p_place stood (inl same) =
          let is_done : done' q ≡ true = one_more q ∙ or_right _ _ (same_self q) in
          rw (same, is_done) (set.there ∙ ap (option_and_then (narrowed loses a)) stood ∙ ap (λ b. option_and_then (narrowed b a) (entry_at old q)) loses_is)
      entry p p_place stood (inr apart) =
          let unchanged : done' p ≡ done p = one_more p ∙ ap (λ b. done p || b) apart ∙ or-false _ in
          let place_now : IsPlace now p = place_kept old now so_far.layout p p_place in
          set.elsewhere p place_now (λ same. cc (apart, ap (λ x. same_place x q) same, same_self q)) ∙ so_far.entries p p_place ∙ ap (λ b. walked b (f || not (same_place p c)) a (entry_at old p)) (sym unchanged)

-- a position behind those so far has another place than they
pub not_among : (os : Origins) (start i : ℕ) (q : Place) → ((j : ℕ) (d : Place) → j < length os → place_at os j d ≡ q → j ≡ i) → is_among os start i q ≡ false
not_among os start i q only_there = false_from_ne_true _ (λ among.
    let there = among_at os start i q q among in
    absurd (omega (arith, there.2, only_there there.0 q there.3 there.4)))

module _ (old : Shards) (trees : List Shape) (loose : AreLoose old trees) (frame start : ℕ) (c : Place) (a : Rights) (f : Bool) where
  -- before the first step
  pub walk_begins : IsWalked old trees frame start c a f start old no_rights
  walk_begins = none_taken old trees loose c a f (is_among (links_in trees frame) start start) nothing
    where
      nothing : (p : Place) → is_among (links_in trees frame) start start p ≡ false
      nothing p = let same : start - start ≡ 0 = omega arith in ap (λ n. list_any (λ (o : Place × Option Place). same_place p o.0) (take n (drop start (links_in trees frame)))) same

  -- one step
  pub walk_goes : (i : ℕ) (now next : Shards) (status more : Rights) (q : Place) (loses : Bool) → IsWalked old trees frame start c a f i now status
      → start ≤ i → i < length (links_in trees frame) → ((d : Place) → place_at (links_in trees frame) i d ≡ q) → ((j : ℕ) (d : Place) → j < length (links_in trees frame) → place_at (links_in trees frame) j d ≡ q → j ≡ i)
      → loses ≡ (f || not (same_place q c)) → more ≡ status_of (entry_at now q) → IsSetAt now next q (option_and_then (narrowed loses a) (entry_at now q)) → IsFalse (is_taken next) → IsLaidOutAs now next
      → IsWalked old trees frame start c a f (i + 1) next (join status more)
  walk_goes i now next status more q loses so_far least within place only_there loses_is more_is set present layout =
      let links = links_in trees frame in
      let listed : is_listed trees frame q ≡ true = subst (λ p. is_listed trees frame p ≡ true) (place q) (listed_at links i q within) in
      let inside = within_from_place (limits_in old trees) q (loose.within frame q listed) in
      one_taken old trees loose c a f (is_among links start i) (is_among links start (i + 1)) now next status more q loses so_far (record { space = inside.space; page = inside.page })
      (not_among links start i q only_there) (λ p. among_more links start i p q least within ∙ ap (λ r. is_among links start i p || same_place p r) (place q))
      loses_is more_is set present layout

-- ---- the end of a walk

-- words that only lost: each entry has the frame of the one before
pub record HaveLost (old new : Shards) : Type 0 where
  pub layout : IsLaidOutAs old new
  pub present : IsFalse (is_taken new)
  pub frames : (p : Place) → IsPlace old p → (e : Entry) → entry_at new p ≡ Some e → (k : Entry) × (entry_at old p ≡ Some k) × (k.frame ≡ e.frame)

pub narrowed_frame : (loses : Bool) (a : Rights) (e k : Entry) → narrowed loses a e ≡ Some k → e.frame ≡ k.frame
narrowed_frame loses a e k is = by (loses && is_empty (rights_left loses a e.rights)) is
  where
    by : (b : Bool) → (if b then None else Some (record e { rights = rights_left loses a e.rights; status = no_rights })) ≡ Some k → e.frame ≡ k.frame
    by true is = absurd (cc is)
    by false is = let same : (record e { rights = rights_left loses a e.rights; status = no_rights }) ≡ k = same_Some _ _ is in ap (λ (x : Entry). x.frame) same

walked_frame : (done loses : Bool) (a : Rights) (o : Option Entry) (e : Entry) → walked done loses a o ≡ Some e → (k : Entry) × (o ≡ Some k) × (k.frame ≡ e.frame)
walked_frame false loses a o e is = (e, is, refl)
walked_frame true loses a None e is = absurd (cc is)
walked_frame true loses a (Some k) e is = (k, refl, narrowed_frame loses a k e is)

-- what is listed is loose still, where what is held is lawful
pub loose_after : (old new : Shards) (trees : List Shape) → AreLoose old trees → HaveLost old new → is_lawful (holdings_in new trees) ≡ true → AreLoose new trees
loose_after old new trees loose lost lawful = record {
  fits = record {
    served = subst (λ l. are_limits l ≡ true) limits loose.fits.served;
    spaces = refl;
    bits = refl;
    present = lost.present;
    some = omega (arith, loose.fits.some, lost.layout.count);
    count = refl;
    frame = λ p e within is. let k = lost.frames p (place p within) e is in subst (λ n. n < length trees) k.2 (loose.fits.frame p k.0 (back p within) k.1);
    listed = λ p e within is. let k = lost.frames p (place p within) e is in subst (λ n. is_listed trees n p ≡ true) k.2 (loose.fits.listed p k.0 (back p within) k.1);
  };
  within = λ frame p listed. subst (λ l. is_place l p ≡ true) limits (loose.within frame p listed);
  frames = λ frame p e listed is.
      let inside = within_from_place (limits_in old trees) p (loose.within frame p listed) in
      let k = lost.frames p (record { space = inside.space; page = inside.page }) e is in
      sym k.2 ∙ loose.frames frame p k.0 listed k.1;
  words = λ frame p listed. word_kept old new lost.layout p (loose.words frame p listed);
  lawful = lawful;
}
  where
    limits : limits_in old trees ≡ limits_in new trees
    limits = ap (λ n. (record { spaces = n; bits = bits_of old; frames = length trees })) (sym lost.layout.spaces) ∙ ap (λ b. (record { spaces = spaces_of new; bits = b; frames = length trees })) (sym lost.layout.bits)

    back : (p : Place) → IsWithin (limits_in new trees) p → IsWithin (limits_in old trees) p
    back p within = subst (λ l. IsWithin l p) (sym limits) within

    place : (p : Place) → IsWithin (limits_in new trees) p → IsPlace old p
    place p within = let inside = back p within in record { space = inside.space; page = inside.page }

module _ (old : Shards) (trees : List Shape) (loose : AreLoose old trees) (frame : ℕ) (run : Range ℕ) (is_run : IsRun (links_in trees frame) run) (some : run.start < run.end) (within_run : run.end ≤ length (links_in trees frame))
    (c : Place) (first : (d : Place) → place_at (links_in trees frame) run.start d ≡ c) (a : Rights) (f : Bool) (now : Shards) (status : Rights) (end : IsWalked old trees frame run.start c a f run.end now status) where
  lawful_was : IsLawful (holdings_in old trees)
  lawful_was = lawful_parts (holdings_in old trees) loose.lawful

  limits_same : limits_in now trees ≡ limits_in old trees
  limits_same = ap (λ n. (record { spaces = n; bits = bits_of now; frames = length trees })) end.layout.spaces ∙ ap (λ b. (record { spaces = spaces_of old; bits = b; frames = length trees })) end.layout.bits

  below : (p : Place) (e : Entry) → IsWithin (limits_in old trees) p → entry_at old p ≡ Some e → is_below (holdings_in old trees) (only c) p ≡ is_among (links_in trees frame) run.start run.end p
  below p e within is = below_among old trees loose frame run is_run some within_run c first p e within is

  -- the word of the walk
  pub walk_word : status ≡ strip_word (holdings_in old trees) (only c)
  walk_word = end.gathered ∙ over_same (holdings_in old trees) lawful_was _ _ (λ p m held. let e = entry_held old trees loose p m held in sym (below p e.1.0 e.0 e.1.1))

  -- what a place in the run loses
  loses_is : (p : Place) → is_below (holdings_in old trees) (only c) p ≡ true → is_narrowed (holdings_in old trees) (only c) f p ≡ (f || not (same_place p c))
  loses_is p is = by (same_or_apart p c)
    where
      of_itself : (x : Bool) → (false || (x && true)) ≡ (x || not true)
      of_itself x = grind arith

      of_other : (x : Bool) → (true || (x && false)) ≡ (x || not false)
      of_other x = grind arith

      by : (p ≡ c) ⊎ (same_place p c ≡ false) → is_narrowed (holdings_in old trees) (only c) f p ≡ (f || not (same_place p c))
      by (inl same) = rw (same, same_self c, under_self (holdings_in old trees) lawful_was c) (of_itself f)
      by (inr apart) =
          let other : same_place c p ≡ false = apart_back p c apart in
          let under : is_under (holdings_in old trees) (only c) p ≡ true = rw other at is in
          rw (apart, other, under) (of_other f)

  -- an entry that loses is the mapping that loses
  narrowed_held : (p : Place) (loses : Bool) (e : Entry) → option_map (held_of trees p) (narrowed loses a e) ≡ left_of loses (narrowed_to loses a (held_of trees p e) no_rights)
  narrowed_held p loses e = by (loses && is_empty (rights_left loses a e.rights))
    where
      by : (b : Bool) → option_map (held_of trees p) (if b then None else Some (record e { rights = rights_left loses a e.rights; status = no_rights })) ≡ (if b then None else Some (narrowed_to loses a (held_of trees p e) no_rights))
      by true = refl
      by false = refl

  -- the walk clears below the first place
  pub walk_clears : holdings_in now trees ≡ clear (holdings_in old trees) (only c) a f
  walk_clears =
      ap (λ l. holdings_of l now trees) limits_same
      ∙ listing_each (limits_in old trees) (held_at old trees) (held_at now trees) (clearing (holdings_in old trees) (only c) a f) (λ p within.
      ap (option_map (held_of trees p)) (end.entries p (record { space = within.space; page = within.page })) ∙ by p within (entry_at old p) refl)
    where
      by : (p : Place) → IsWithin (limits_in old trees) p → (o : Option Entry) → entry_at old p ≡ o
          → option_map (held_of trees p) (walked (is_among (links_in trees frame) run.start run.end p) (f || not (same_place p c)) a o) ≡ changed (clearing (holdings_in old trees) (only c) a f) p (option_map (held_of trees p) o)
      by p within None is = none (is_among (links_in trees frame) run.start run.end p)
        where
          none : (b : Bool) → option_map (held_of trees p) (walked b (f || not (same_place p c)) a None) ≡ None
          none true = refl
          none false = refl
      by p within (Some e) is = there (is_below (holdings_in old trees) (only c) p) refl
        where
          there : (b : Bool) → is_below (holdings_in old trees) (only c) p ≡ b
              → option_map (held_of trees p) (walked (is_among (links_in trees frame) run.start run.end p) (f || not (same_place p c)) a (Some e)) ≡ clearing (holdings_in old trees) (only c) a f p (held_of trees p e)
          there true inside =
              let among = sym (below p e within is) ∙ inside in
              rw (among, loses_is p inside, inside) (narrowed_held p (f || not (same_place p c)) e)
          there false outside =
              let among = sym (below p e within is) ∙ outside in
              rw among (sym (clearing_outside (holdings_in old trees) (only c) a f p (held_of trees p e) outside))

  -- it only takes away
  pub walk_loses : HaveLost old now
  walk_loses = record { layout = end.layout; present = end.present; frames = λ p place e is. walked_frame (is_among (links_in trees frame) run.start run.end p) (f || not (same_place p c)) a (entry_at old p) e (sym (end.entries p place) ∙ is) }

  -- ---- the origin of the first place

  first_listed : is_listed trees frame c ≡ true
  first_listed = subst (λ p. is_listed trees frame p ≡ true) (first c) (listed_at (links_in trees frame) run.start c (omega (arith, some, within_run)))

  first_within : IsWithin (limits_in old trees) c
  first_within = within_from_place (limits_in old trees) c (loose.within frame c first_listed)

  -- what is passed to the origin, if the first place is held; otherwise it is nothing
  passes : (o : Option Place) → origin_in (links_in trees frame) c ≡ o
      → (origin_at (holdings_in old trees) c ≡ o) ⊎ ((origin_at (holdings_in old trees) c ≡ None) × (status ≡ no_rights))
  passes o is = by (entry_at old c) refl
    where
      by : (k : Option Entry) → entry_at old c ≡ k → (origin_at (holdings_in old trees) c ≡ o) ⊎ ((origin_at (holdings_in old trees) c ≡ None) × (status ≡ no_rights))
      by None none =
          let absent = absent_within (limits_in old trees) old trees c first_within none in
          let unheld : is_held (holdings_in old trees) c ≡ false = ap is_some absent in
          inr (ap (option_and_then (λ (m : Held). m.origin)) absent, walk_word ∙ word_nothing (holdings_in old trees) (only c) lawful_was (below_unheld (holdings_in old trees) lawful_was c unheld))
      by (Some e) held =
          let same_frame = loose.frames frame c e first_listed held in
          inl (origin_within (limits_in old trees) old trees c first_within e held ∙ ap (λ n. origin_in (links_in trees n) c) same_frame ∙ is)

  -- the walk and then what is passed is the strip
  passing_strips : (next : Shards) → HaveLost now next
      → ((p : Place) → IsWithin (limits_in old trees) p → held_at next trees p ≡ changed (passing (holdings_in old trees) lawful_was c a f) p (held_at now trees p))
      → holdings_in next trees ≡ strip (holdings_in old trees) (only c) a f
  passing_strips next lost same =
      let limits_next : limits_in next trees ≡ limits_in old trees =
      ap (λ n. (record { spaces = n; bits = bits_of next; frames = length trees })) lost.layout.spaces ∙ ap (λ b. (record { spaces = spaces_of now; bits = b; frames = length trees })) lost.layout.bits ∙ limits_same in
      ap (λ l. holdings_of l next trees) limits_next
      ∙ listing_each (limits_in old trees) (held_at now trees) (held_at next trees) (passing (holdings_in old trees) lawful_was c a f) same
      ∙ ap (each (passing (holdings_in old trees) lawful_was c a f)) (sym (ap (λ l. holdings_of l now trees) limits_same) ∙ walk_clears)
      ∙ ap (λ (v : Visited). v.left) (passed_is (holdings_in old trees) lawful_was c a f)

  -- nothing is passed where there is no origin
  pub none_passed : origin_in (links_in trees frame) c ≡ None → holdings_in now trees ≡ strip (holdings_in old trees) (only c) a f
  none_passed is = passing_strips now (record { layout = record { spaces = refl; bits = refl; count = refl; index = λ p. refl }; present = end.present; frames = λ p place e there. (e, there, refl) })
      (λ p within. by p (origin_is (passes None is)) (held_at now trees p))
    where
      origin_is : (origin_at (holdings_in old trees) c ≡ None) ⊎ ((origin_at (holdings_in old trees) c ≡ None) × (status ≡ no_rights)) → origin_at (holdings_in old trees) c ≡ None
      origin_is (inl none) = none
      origin_is (inr none) = none.0

      by : (p : Place) → origin_at (holdings_in old trees) c ≡ None → (m : Option Held) → m ≡ changed (passing (holdings_in old trees) lawful_was c a f) p m
      by p none None = refl
      by p none (Some m) = rw none refl

  -- nor where nothing was gathered
  pub nothing_passed : status ≡ no_rights → holdings_in now trees ≡ strip (holdings_in old trees) (only c) a f
  nothing_passed nothing = passing_strips now (record { layout = record { spaces = refl; bits = refl; count = refl; index = λ p. refl }; present = end.present; frames = λ p place e there. (e, there, refl) })
      (λ p within. by p (origin_at (holdings_in old trees) c) refl (held_at now trees p))
    where
      gains : (m : Held) → Some m ≡ Some (record m { status = join m.status (strip_word (holdings_in old trees) (only c)) })
      gains m = ap (λ r. Some (record m { status = r })) (sym (ap (join m.status) (sym walk_word ∙ nothing) ∙ join_nothing m.status))

      by : (p : Place) (o : Option Place) → origin_at (holdings_in old trees) c ≡ o → (m : Option Held) → m ≡ changed (passing (holdings_in old trees) lawful_was c a f) p m
      by p o from None = refl
      by p None from (Some m) = rw from refl
      by p (Some o) from (Some m) = there (same_place p o) refl
        where
          there : (b : Bool) → same_place p o ≡ b → Some m ≡ changed (passing (holdings_in old trees) lawful_was c a f) p (Some m)
          there true same = rw (from, same) (gains m)
          there false apart = rw (from, apart) refl

  -- otherwise the origin gains it
  pub some_passed : (o : Place) (next : Shards) → origin_in (links_in trees frame) c ≡ Some o → IsPlace now o → IsSetAt now next o (option_map (with_status status) (entry_at now o)) → IsFalse (is_taken next) → IsLaidOutAs now next
      → (holdings_in next trees ≡ strip (holdings_in old trees) (only c) a f) × HaveLost now next
  some_passed o next is o_place set present layout = (passing_strips next lost (λ p within. at_place p within (same_or_apart p o)), lost)
    where
      gained_frame : (k : Option Entry) (e : Entry) → option_map (with_status status) k ≡ Some e → (j : Entry) × (k ≡ Some j) × (j.frame ≡ e.frame)
      gained_frame None e is = absurd (cc is)
      gained_frame (Some k) e is = (k, refl, ap (λ (x : Entry). x.frame) (same_Some (with_status status k) e is))

      lost : HaveLost now next
      lost = record { layout = layout; present = present; frames = λ p place e there. by p place e there (same_or_apart p o) }
        where
          by : (p : Place) → IsPlace now p → (e : Entry) → entry_at next p ≡ Some e → (p ≡ o) ⊎ (same_place p o ≡ false) → (k : Entry) × (entry_at now p ≡ Some k) × (k.frame ≡ e.frame)
          by p place e there (inl same) =
              let k = gained_frame (entry_at now o) e (sym set.there ∙ ap (entry_at next) (sym same) ∙ there) in
              (k.0, ap (entry_at now) same ∙ k.1, k.2)
          by p place e there (inr apart) = (e, sym (set.elsewhere p place (λ same. cc (apart, ap (λ x. same_place x o) same, same_self o))) ∙ there, refl)

      place_now : (p : Place) → IsWithin (limits_in old trees) p → IsPlace now p
      place_now p within = record { space = subst (λ n. p.space < n) (sym end.layout.spaces) within.space; page = subst (λ b. p.page < pages_of b) (sym end.layout.bits) within.page }

      at_place : (p : Place) → IsWithin (limits_in old trees) p → (p ≡ o) ⊎ (same_place p o ≡ false) → held_at next trees p ≡ changed (passing (holdings_in old trees) lawful_was c a f) p (held_at now trees p)
      at_place p within (inr apart) =
          ap (option_map (held_of trees p)) (set.elsewhere p (place_now p within) (λ same. cc (apart, ap (λ x. same_place x o) same, same_self o))) ∙ by (passes (Some o) is) (held_at now trees p)
        where
          by : (origin_at (holdings_in old trees) c ≡ Some o) ⊎ ((origin_at (holdings_in old trees) c ≡ None) × (status ≡ no_rights)) → (m : Option Held) → m ≡ changed (passing (holdings_in old trees) lawful_was c a f) p m
          by _ None = refl
          by (inl from) (Some m) = rw (from, apart) refl
          by (inr none) (Some m) = rw (none.0) refl
      at_place p within (inl same) =
          ap (option_map (held_of trees p)) (ap (entry_at next) same ∙ set.there) ∙ by (passes (Some o) is) (entry_at now o) ∙ ap (λ x. changed (passing (holdings_in old trees) lawful_was c a f) p (option_map (held_of trees p) (entry_at now x))) (sym same)
        where
          by : (origin_at (holdings_in old trees) c ≡ Some o) ⊎ ((origin_at (holdings_in old trees) c ≡ None) × (status ≡ no_rights)) → (k : Option Entry)
              → option_map (held_of trees p) (option_map (with_status status) k) ≡ changed (passing (holdings_in old trees) lawful_was c a f) p (option_map (held_of trees p) k)
          by _ None = refl
          by (inl from) (Some e) = rw (from, same, same_self o) (ap (λ r. Some (record (held_of trees o e) { status = join e.status r })) walk_word)
          by (inr none) (Some e) = rw (none.0, none.1, join_nothing e.status) refl

-- ---- the whole of it

-- a place of a list does not depend on what a place past its end would be
pub place_any : (os : Origins) (i : ℕ) (d e : Place) → i < length os → place_at os i d ≡ place_at os i e
place_any [] i d e within = absurd (omega (arith, within))
place_any (o ∷ os) zero d e within = refl
place_any (o ∷ os) (suc i) d e within = place_any os i d e (omega (arith, within))

-- the place at a position of a tree
abbrev pub stands_at : List Shape → ℕ → ℕ → Place
stands_at trees frame i = place_at (links_in trees frame) i (record { space = 0; page = 0 })

-- a place that stands before others is none of them
none_behind : (p : Place) (os : Origins) (i : ℕ) (d : Place) → list_all (λ q. not (same_place p q.0)) os ≡ true → i < length os → p ≡ place_at os i d → ⊥
none_behind p [] i d none within is = absurd (omega (arith, within))
none_behind p (o ∷ os) zero d none within is = let parts = and_parts (not (same_place p o.0)) (list_all (λ q. not (same_place p q.0)) os) none in cc (parts.0, ap not (subst (λ q. same_place p q ≡ true) is (same_self p)))
none_behind p (o ∷ os) (suc i) d none within is = let parts = and_parts (not (same_place p o.0)) (list_all (λ q. not (same_place p q.0)) os) none in none_behind p os i d parts.1 (omega (arith, within)) is

-- no place stands at two positions
pub stands_once : (os : Origins) → are_once os ≡ true → (i j : ℕ) (d : Place) → i < length os → j < length os → place_at os j d ≡ place_at os i d → j ≡ i
stands_once [] once i j d i_within j_within same = absurd (omega (arith, i_within))
stands_once (o ∷ os) once zero zero d i_within j_within same = refl
stands_once (o ∷ os) once zero (suc j) d i_within j_within same =
    let parts = and_parts (list_all (λ q. not (same_place o.0 q.0)) os) (are_once os) once in absurd (none_behind o.0 os j d parts.0 (omega (arith, j_within)) (sym same))
stands_once (o ∷ os) once (suc i) zero d i_within j_within same =
    let parts = and_parts (list_all (λ q. not (same_place o.0 q.0)) os) (are_once os) once in absurd (none_behind o.0 os i d parts.0 (omega (arith, i_within)) same)
stands_once (o ∷ os) once (suc i) (suc j) d i_within j_within same =
    let parts = and_parts (list_all (λ q. not (same_place o.0 q.0)) os) (are_once os) once in ap suc (stands_once os parts.1 i j d (omega (arith, i_within)) (omega (arith, j_within)) same)

-- a place that stands in a tree is one
pub standing_place : (shards : Shards) (trees : List Shape) (frame : ℕ) → AreLoose shards trees → (p : Place) → is_listed trees frame p ≡ true → IsPlace shards p
standing_place shards trees frame loose p stands = let inside = within_from_place (limits_in shards trees) p (loose.within frame p stands) in record { space = inside.space; page = inside.page }

-- the place of a link
link_place : (os : Origins) (k : ℕ) (d : Place × Option Place) → k < length os → (get_or os k d).0 ≡ place_at os k d.0
link_place [] k d within = absurd (omega (arith, within))
link_place (o ∷ os) zero d within = refl
link_place (o ∷ os) (suc k) d within = link_place os k d (omega (arith, within))

-- so are all places of a tree
pub standing_places : (shards : Shards) (trees : List Shape) (frame : ℕ) → AreLoose shards trees → All (λ o. IsPlace shards o.0) (links_in trees frame)
standing_places shards trees frame loose k d within =
    subst (IsPlace shards) (sym (link_place (links_in trees frame) k d within)) (standing_place shards trees frame loose (place_at (links_in trees frame) k d.0) (listed_at (links_in trees frame) k d.0 within))

-- and its shard is there
pub standing_there : (shards : Shards) (trees : List Shape) (frame : ℕ) → AreLoose shards trees → (p : Place) → is_listed trees frame p ≡ true → IsThere shards p
standing_there shards trees frame loose p stands = record { place = standing_place shards trees frame loose p stands; word = loose.words frame p stands }

-- a listed place is one
pub listed_place : (shards : Shards) (trees : List Shape) (frame : ℕ) → AreLoose shards trees → (i : ℕ) (p : Place) → i < length (links_in trees frame) → ((d : Place) → place_at (links_in trees frame) i d ≡ p) → IsPlace shards p
listed_place shards trees frame loose i p within at =
    standing_place shards trees frame loose p (subst (λ q. is_listed trees frame q ≡ true) (at p) (listed_at (links_in trees frame) i p within))

pub same_layouts : (old now new : Shards) → IsLaidOutAs old now → IsLaidOutAs now new → IsLaidOutAs old new
same_layouts old now new x y = record { spaces = y.spaces ∙ x.spaces; bits = y.bits ∙ x.bits; count = y.count ∙ x.count; index = λ p. y.index p ∙ x.index p }

lost_more : (old now new : Shards) → HaveLost old now → HaveLost now new → HaveLost old new
lost_more old now new x y = record {
  layout = same_layouts old now new x.layout y.layout;
  present = y.present;
  frames = λ p place e is.
      let k = y.frames p (place_kept old now x.layout p place) e is in
      let j = x.frames p place k.0 k.1 in
      (j.0, j.1, j.2 ∙ k.2);
}

-- what a stripped run leaves
pub record IsStripped (old : Shards) (trees : List Shape) (c : Place) (a : Rights) (f : Bool) (new : Shards) (status : Rights) : Type 0 where
  pub word : status ≡ strip_word (holdings_in old trees) (only c)
  pub left : holdings_in new trees ≡ strip (holdings_in old trees) (only c) a f
  pub loose : AreLoose new trees
  pub layout : IsLaidOutAs old new

stripped_from : (old now new : Shards) (trees : List Shape) (c : Place) (a : Rights) (f : Bool) (status : Rights) → AreLoose old trees → HaveLost old now → HaveLost now new → status ≡ strip_word (holdings_in old trees) (only c)
    → holdings_in new trees ≡ strip (holdings_in old trees) (only c) a f → IsStripped old trees c a f new status
stripped_from old now new trees c a f status loose lost more word left =
    let whole = lost_more old now new lost more in
    record {
      word = word;
      left = left;
      loose = loose_after old new trees loose whole (ap is_lawful left ∙ lawful_from (strip (holdings_in old trees) (only c) a f) (lawful_strip (holdings_in old trees) (only c) a f (lawful_parts (holdings_in old trees) loose.lawful)));
      layout = whole.layout;
    }

module _ (old : Shards) (trees : List Shape) (loose : AreLoose old trees) (frame : ℕ) (run : Range ℕ) (is_run : IsRun (links_in trees frame) run) (some : run.start < run.end) (within_run : run.end ≤ length (links_in trees frame))
    (c : Place) (first : (d : Place) → place_at (links_in trees frame) run.start d ≡ c) (a : Rights) (f : Bool) (now : Shards) (status : Rights) (end : IsWalked old trees frame run.start c a f run.end now status) where
  pub run_without_origin : origin_in (links_in trees frame) c ≡ None → IsStripped old trees c a f now status
  run_without_origin is =
      stripped_from old now now trees c a f status loose (walk_loses old trees loose frame run is_run some within_run c first a f now status end)
      (record { layout = record { spaces = refl; bits = refl; count = refl; index = λ p. refl }; present = end.present; frames = λ p place e there. (e, there, refl) })
      (walk_word old trees loose frame run is_run some within_run c first a f now status end) (none_passed old trees loose frame run is_run some within_run c first a f now status end is)

  pub run_without_status : status ≡ no_rights → IsStripped old trees c a f now status
  run_without_status nothing =
      stripped_from old now now trees c a f status loose (walk_loses old trees loose frame run is_run some within_run c first a f now status end)
      (record { layout = record { spaces = refl; bits = refl; count = refl; index = λ p. refl }; present = end.present; frames = λ p place e there. (e, there, refl) })
      (walk_word old trees loose frame run is_run some within_run c first a f now status end) (nothing_passed old trees loose frame run is_run some within_run c first a f now status end nothing)

  pub run_with_origin : (o : Place) (next : Shards) → origin_in (links_in trees frame) c ≡ Some o → IsPlace now o → IsSetAt now next o (option_map (with_status status) (entry_at now o)) → IsFalse (is_taken next) → IsLaidOutAs now next → IsStripped old trees c a f next status
  run_with_origin o next is place set present layout =
      let passed = some_passed old trees loose frame run is_run some within_run c first a f now status end o next is place set present layout in
      stripped_from old now next trees c a f status loose (walk_loses old trees loose frame run is_run some within_run c first a f now status end) passed.1
      (walk_word old trees loose frame run is_run some within_run c first a f now status end) passed.0
