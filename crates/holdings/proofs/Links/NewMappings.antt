-- A page is mapped to a place that is not held: a word is set, and the place put into the tree of its frame.
use Rattle.std.proofs.Common.{◌≡◌, ℕ, zero, suc, ◌<◌, true, false, ◌||◌, List, [], ◌∷◌, length, get_or, Option, Some, None, refl, sym, ap, ◌∙◌, subst, arith, ◌⊎◌, inl, inr}
use Rattle.std.specs.Prelude.{slice_set}
use Rattle.std.specs.List.{slice_get}
use Rattle.std.specs.Option.{option_map, option_map_or, is_some}
use Rattle.std.specs.FinMap.Entries.{put}
use Rattle.std.proofs.lemmas.Bool.{eq-eqb, cases_eq, or_left, or_right, or_cases, false_from_ne_true}
use Rattle.std.proofs.lemmas.List.{length-set, set-get_or}
use Rattle.std.proofs.lemmas.Option.{same_Some}
use Rattle.fpage.specs.Rights.{no_rights, meet, is_empty, is_within}
use Rattle.fpage.specs.declared.rights.Rights.{Rights}
use Rattle.fpage.proofs.RightSets.{meet_within}
use Rattle.space.specs.declared.place.Place.{Place}
use Rattle.space.specs.declared.place.Entry.{Entry}
use Rattle.space.specs.declared.shards.Shards.{Shards}
use Rattle.space.specs.Place.{place_cmp, same_place}
use Rattle.space.specs.Shards.{entry_at}
use Rattle.space.proofs.Places.{same_is, same_self, same_or_apart}
use Rattle.maptree.specs.Origins.{Shape, Origins, origin_in}
use Rattle.model.specs.Definitions.Holdings.{Held, Holdings, at, is_held}
use Rattle.model.specs.Definitions.Calls.{Limits}
use Rattle.model.specs.Definitions.Lawful.{is_lawful}
use Rattle.model.specs.Definitions.Items.{one_page}
use Rattle.model.specs.Definitions.Map.{linked}
use Rattle.model.proofs.LawfulParts.{IsLawful, IsOrigin, lawful_parts, lawful_from}
use Rattle.model.proofs.Growths.{lawful_grown}
use Rattle.model.proofs.Puts.{apart_places, put_here, put_elsewhere, sorted_put}
use Rattle.holdings.specs.Inner.Derivation.{stands_in, IsDerived}
use Rattle.holdings.specs.Places.{IsWithin}
use Rattle.holdings.specs.Inner.Held.{is_place, links_in, is_listed, held_of, held_at, has_frame, holdings_of}
use Rattle.holdings.specs.Inner.Sound.{IsPruned, IsSound}
use Rattle.holdings.specs.Inner.Links.{IsTreeSet}
use Rattle.holdings.proofs.Contents.Listing.{listing_put, place_from_within, within_from_place}
use Rattle.holdings.proofs.Contents.Holders.{place_within, entry_elsewhere, present_within, absent_within}
use Rattle.holdings.proofs.Contents.WordChanges.{IsWordSet}

-- ---- one tree is changed

get_there : (trees : List Shape) (frame : ℕ) (t : Shape) → frame < length trees → slice_get (slice_set trees frame t) frame ≡ Some t
get_there [] frame t within = absurd (omega (arith, within))
get_there (s ∷ trees) zero t within = refl
get_there (s ∷ trees) (suc frame) t within = get_there trees frame t (omega (arith, within))

get_elsewhere : (trees : List Shape) (frame f : ℕ) (t : Shape) → (f ≡ frame → ⊥) → slice_get (slice_set trees frame t) f ≡ slice_get trees f
get_elsewhere [] frame f t apart = refl
get_elsewhere (s ∷ trees) zero zero t apart = absurd (apart refl)
get_elsewhere (s ∷ trees) zero (suc f) t apart = refl
get_elsewhere (s ∷ trees) (suc frame) zero t apart = refl
get_elsewhere (s ∷ trees) (suc frame) (suc f) t apart = get_elsewhere trees frame f t (λ same. apart (ap suc same))

pub tree_set : (trees : List Shape) (frame : ℕ) (t : Shape) → frame < length trees → IsTreeSet trees (slice_set trees frame t) frame t.links
tree_set trees frame t within = record {
  count = length-set trees frame t;
  there = ap (λ o. option_map_or (λ (t : Shape). t.links) o []) (get_there trees frame t within);
  elsewhere = λ f apart. ap (λ o. option_map_or (λ (t : Shape). t.links) o []) (get_elsewhere trees frame f t apart);
}

-- a tree that stays as it is
pub tree_kept : (trees : List Shape) (frame : ℕ) (old new : Shape) → old ≡ get_or trees frame old → new ≡ old → slice_set trees frame new ≡ trees
tree_kept trees frame old new is same = ap (slice_set trees frame) (same ∙ is) ∙ set-get_or trees frame old

-- ---- lawful holdings that gain a mapping of a held place

module _ (h : Holdings) (l : IsLawful h) (source target : Place) (m k : Held) (held : at h source ≡ Some m) (free : at h target ≡ None)
    (frame : k.frame ≡ m.frame) (rights : Rights) (fewer : k.rights ≡ meet m.rights rights) (some : is_empty (meet m.rights rights) ≡ false) (origin : k.origin ≡ Some source) where
  after : Holdings
  after = put place_cmp target k h

  not_target : (p : Place) (v : Held) → at h p ≡ Some v → same_place p target ≡ false
  not_target p v is = apart_places p target (λ same. cc (is, free, ap (at h) same))

  stays : (p : Place) (v : Held) → at h p ≡ Some v → at after p ≡ Some v
  unfolding after
  stays p v is = put_elsewhere p target k h (not_target p v is) ∙ is

  here : at after target ≡ Some k
  unfolding after
  here = put_here target k h

  -- what is held after it was held before, or is the new mapping
  new_or_old : (p : Place) (v : Held) → at after p ≡ Some v → ((p ≡ target) × (v ≡ k)) ⊎ (at h p ≡ Some v)
  unfolding after
  new_or_old p v is = by (same_or_apart p target)
    where
      by : (p ≡ target) ⊎ (same_place p target ≡ false) → ((p ≡ target) × (v ≡ k)) ⊎ (at h p ≡ Some v)
      by (inl same) = inl (same, same_Some v k (sym is ∙ ap (at (put place_cmp target k h)) same ∙ put_here target k h))
      by (inr apart) = inr (sym (put_elsewhere p target k h apart) ∙ is)

  source_after : IsOrigin after source k
  source_after = record {
    held = m;
    is = stays source m held;
    frame = frame;
    within = subst (λ r. is_within r m.rights ≡ true) (sym fewer) (meet_within m.rights rights);
  }

  origin_after : (p o : Place) (v : Held) → at after p ≡ Some v → v.origin ≡ Some o → IsOrigin after o v
  origin_after p o v is from = by (new_or_old p v is)
    where
      by : ((p ≡ target) × (v ≡ k)) ⊎ (at h p ≡ Some v) → IsOrigin after o v
      by (inl (same, one)) =
          let from_source : source ≡ o = same_Some source o (sym origin ∙ ap (λ x. x.origin) (sym one) ∙ from) in
          subst (λ x. IsOrigin after o x) (sym one) (subst (λ x. IsOrigin after x k) from_source source_after)
      by (inr old) = let before = l.origin p o v old from in record { held = before.held; is = stays o before.held before.is; frame = before.frame; within = before.within }

  some_after : (p : Place) (v : Held) → at after p ≡ Some v → is_empty v.rights ≡ false
  some_after p v is = by (new_or_old p v is)
    where
      by : ((p ≡ target) × (v ≡ k)) ⊎ (at h p ≡ Some v) → is_empty v.rights ≡ false
      by (inl (same, one)) = ap (λ x. is_empty x.rights) one ∙ ap is_empty fewer ∙ some
      by (inr old) = l.some p v old

  new_after : (p : Place) (v : Held) → at after p ≡ Some v → at h p ≡ None → (o : Place) × (v.origin ≡ Some o) × (n : Held) × (at h o ≡ Some n)
  new_after p v is gone = by (new_or_old p v is)
    where
      by : ((p ≡ target) × (v ≡ k)) ⊎ (at h p ≡ Some v) → (o : Place) × (v.origin ≡ Some o) × (n : Held) × (at h o ≡ Some n)
      by (inl (same, one)) = (source, ap (λ x. x.origin) one ∙ origin, m, held)
      by (inr old) = absurd (cc (old, gone))

  pub lawful_put : IsLawful (put place_cmp target k h)
  unfolding after
  lawful_put = lawful_grown h (put place_cmp target k h) l (record {
    sorted = sorted_put target k h l.sorted;
    some = some_after;
    origin = origin_after;
    still = λ p v is. record { held = v; is = stays p v is; frame = refl; origin = refl };
    new = new_after;
  })

-- ---- the word and the tree of a new mapping

-- the entry of a new mapping: those of the source's rights that may go, and no status
abbrev pub linked_entry : Entry → Rights → Entry
linked_entry e rights = record { frame = e.frame; rights = meet e.rights rights; status = no_rights }

-- a page became a mapping of another: its word was set, and it was put into the tree of the frame
pub record IsMapped (old new : Shards) (trees new_trees : List Shape) (source target : Place) (e : Entry) (rights : Rights) : Type 0 where
  pub links : Origins
  pub word : IsWordSet old new target (Some (linked_entry e rights))
  pub tree : IsTreeSet trees new_trees e.frame links
  pub derived : IsDerived (links_in trees e.frame) links source target
  pub stood : entry_at old source ≡ Some e
  pub free : entry_at old target ≡ None
  pub some : is_empty (meet e.rights rights) ≡ false

module _ (limits : Limits) (old new : Shards) (trees new_trees : List Shape) (source target : Place) (e : Entry) (rights : Rights)
    (sound : IsSound limits old trees) (source_within : IsWithin limits source) (target_within : IsWithin limits target) (mapped : IsMapped old new trees new_trees source target e rights) where
  entry_kept : (p : Place) → IsWithin limits p → same_place p target ≡ false → entry_at new p ≡ entry_at old p
  entry_kept p within apart = entry_elsewhere old new trees target (Some (linked_entry e rights)) mapped.word.set p (place_within limits old trees sound.kept.fits p within) apart

  -- ---- trees

  links_there : links_in new_trees e.frame ≡ mapped.links
  links_there = mapped.tree.there

  origin_kept : (f : ℕ) (p : Place) → same_place p target ≡ false → origin_in (links_in new_trees f) p ≡ origin_in (links_in trees f) p
  origin_kept f p apart = by (cases_eq f e.frame)
    where
      by : (f ≡ e.frame) ⊎ (f ≡ e.frame → ⊥) → origin_in (links_in new_trees f) p ≡ origin_in (links_in trees f) p
      by (inl same) =
          subst (λ g. origin_in (links_in new_trees g) p ≡ origin_in (links_in trees g) p) (sym same) (ap (λ (os : Origins). origin_in os p) links_there ∙ mapped.derived.elsewhere p apart)
      by (inr differ) = ap (λ (os : Origins). origin_in os p) (mapped.tree.elsewhere f differ)

  stands_there : (p : Place) → is_listed new_trees e.frame p ≡ (same_place p target || is_listed trees e.frame p)
  stands_there p = ap (λ (os : Origins). stands_in os p) links_there ∙ mapped.derived.stands p

  still_listed : (f : ℕ) (p : Place) → is_listed trees f p ≡ true → is_listed new_trees f p ≡ true
  still_listed f p listed = by (cases_eq f e.frame)
    where
      by : (f ≡ e.frame) ⊎ (f ≡ e.frame → ⊥) → is_listed new_trees f p ≡ true
      by (inl same) =
          subst (λ g. is_listed new_trees g p ≡ true) (sym same)
          (stands_there p ∙ or_right (same_place p target) (is_listed trees e.frame p) (subst (λ g. is_listed trees g p ≡ true) same listed))
      by (inr differ) = ap (λ (os : Origins). stands_in os p) (mapped.tree.elsewhere f differ) ∙ listed

  target_listed : is_listed new_trees e.frame target ≡ true
  target_listed = stands_there target ∙ or_left (same_place target target) (is_listed trees e.frame target) (same_self target)

  -- what is listed is the target, or was listed
  listed_cases : (f : ℕ) (p : Place) → is_listed new_trees f p ≡ true → ((f ≡ e.frame) × (p ≡ target)) ⊎ (is_listed trees f p ≡ true)
  listed_cases f p listed = by (cases_eq f e.frame)
    where
      at_frame : f ≡ e.frame → (same_place p target ≡ true) ⊎ (is_listed trees e.frame p ≡ true) → ((f ≡ e.frame) × (p ≡ target)) ⊎ (is_listed trees f p ≡ true)
      at_frame same (inl is) = inl (same, same_is p target is)
      at_frame same (inr was) = inr (subst (λ g. is_listed trees g p ≡ true) (sym same) was)

      by : (f ≡ e.frame) ⊎ (f ≡ e.frame → ⊥) → ((f ≡ e.frame) × (p ≡ target)) ⊎ (is_listed trees f p ≡ true)
      by (inl same) = at_frame same (or_cases (same_place p target) (is_listed trees e.frame p) (sym (stands_there p) ∙ subst (λ g. is_listed new_trees g p ≡ true) same listed))
      by (inr differ) = inr (sym (ap (λ (os : Origins). stands_in os p) (mapped.tree.elsewhere f differ)) ∙ listed)

  -- ---- holdings

  mapped_there : held_at new new_trees target ≡ Some (linked (one_page rights source target) source (held_of trees source e))
  mapped_there =
      ap (option_map (held_of new_trees target)) mapped.word.set.there
      ∙ ap (λ o. Some (record { frame = e.frame; rights = meet e.rights rights; status = no_rights; origin = o })) (ap (λ (os : Origins). origin_in os target) links_there ∙ mapped.derived.there)

  mapped_elsewhere : (p : Place) → IsWithin limits p → same_place p target ≡ false → held_at new new_trees p ≡ held_at old trees p
  mapped_elsewhere p within apart = ap (option_map (held_of new_trees p)) (entry_kept p within apart) ∙ by (entry_at old p)
    where
      by : (o : Option Entry) → option_map (held_of new_trees p) o ≡ option_map (held_of trees p) o
      by None = refl
      by (Some x) = ap (λ o. Some (record { frame = x.frame; rights = x.rights; status = x.status; origin = o })) (origin_kept x.frame p apart)

  -- the new mapping is put into the holdings
  pub mapped_holdings : holdings_of limits new new_trees ≡ put place_cmp target (linked (one_page rights source target) source (held_of trees source e)) (holdings_of limits old trees)
  mapped_holdings =
      listing_put limits (held_at old trees) (held_at new new_trees) target (linked (one_page rights source target) source (held_of trees source e)) target_within mapped_there mapped_elsewhere

  mapped_lawful : is_lawful (holdings_of limits new new_trees) ≡ true
  mapped_lawful =
      ap is_lawful mapped_holdings
      ∙ lawful_from _
      (lawful_put (holdings_of limits old trees) (lawful_parts (holdings_of limits old trees) sound.kept.lawful) source target (held_of trees source e) (linked (one_page rights source target) source (held_of trees source e))
      (present_within limits old trees source source_within e mapped.stood) (absent_within limits old trees target target_within mapped.free) refl rights refl mapped.some refl)

  -- ---- words and trees

  -- what stands at a place is the new entry, or stood there
  entry_cases : (p : Place) (x : Entry) → IsWithin limits p → entry_at new p ≡ Some x → ((p ≡ target) × (x ≡ linked_entry e rights)) ⊎ (entry_at old p ≡ Some x)
  entry_cases p x within is = by (same_or_apart p target)
    where
      by : (p ≡ target) ⊎ (same_place p target ≡ false) → ((p ≡ target) × (x ≡ linked_entry e rights)) ⊎ (entry_at old p ≡ Some x)
      by (inl same) = inl (same, same_Some x (linked_entry e rights) (sym is ∙ ap (entry_at new) same ∙ mapped.word.set.there))
      by (inr apart) = inr (sym (entry_kept p within apart) ∙ is)

  kept_frame : (p : Place) (x : Entry) → IsWithin limits p → entry_at new p ≡ Some x → x.frame < limits.frames
  kept_frame p x within is = by (entry_cases p x within is)
    where
      by : ((p ≡ target) × (x ≡ linked_entry e rights)) ⊎ (entry_at old p ≡ Some x) → x.frame < limits.frames
      by (inl (same, one)) = subst (λ f. f < limits.frames) (ap (λ y. y.frame) (sym one)) (sound.kept.fits.frame source e source_within mapped.stood)
      by (inr old) = sound.kept.fits.frame p x within old

  kept_listed : (p : Place) (x : Entry) → IsWithin limits p → entry_at new p ≡ Some x → is_listed new_trees x.frame p ≡ true
  kept_listed p x within is = by (entry_cases p x within is)
    where
      by : ((p ≡ target) × (x ≡ linked_entry e rights)) ⊎ (entry_at old p ≡ Some x) → is_listed new_trees x.frame p ≡ true
      by (inl (same, one)) = subst (λ f. is_listed new_trees f p ≡ true) (ap (λ y. y.frame) (sym one)) (subst (λ q. is_listed new_trees e.frame q ≡ true) (sym same) target_listed)
      by (inr old) = still_listed x.frame p (sound.kept.fits.listed p x within old)

  still_held : (f : ℕ) (p : Place) → is_listed new_trees f p ≡ true → has_frame f (entry_at new p) ≡ true
  still_held f p listed = by (listed_cases f p listed)
    where
      by : ((f ≡ e.frame) × (p ≡ target)) ⊎ (is_listed trees f p ≡ true) → has_frame f (entry_at new p) ≡ true
      by (inl (frame, same)) = ap (has_frame f) (ap (entry_at new) same ∙ mapped.word.set.there) ∙ eq-eqb e.frame f (sym frame)
      by (inr was) =
          let held = sound.pruned.held f p was in
          let apart = apart_places p target (λ same. cc (held, ap (has_frame f) (ap (entry_at old) same ∙ mapped.free))) in
          ap (has_frame f) (entry_kept p (within_from_place limits p (sound.pruned.within f p was)) apart) ∙ held

  still_within : (f : ℕ) (p : Place) → is_listed new_trees f p ≡ true → is_place limits p ≡ true
  still_within f p listed = by (listed_cases f p listed)
    where
      by : ((f ≡ e.frame) × (p ≡ target)) ⊎ (is_listed trees f p ≡ true) → is_place limits p ≡ true
      by (inl (frame, same)) = ap (is_place limits) same ∙ place_from_within limits target target_within
      by (inr was) = sound.pruned.within f p was

  -- words and trees stay sound
  pub mapped_sound : IsSound limits new new_trees
  mapped_sound = record {
    kept = record {
      fits = record {
        served = sound.kept.fits.served;
        spaces = mapped.word.layout.spaces ∙ sound.kept.fits.spaces;
        bits = mapped.word.layout.bits ∙ sound.kept.fits.bits;
        present = mapped.word.present;
        some = omega (arith, sound.kept.fits.some, mapped.word.layout.count);
        count = mapped.tree.count ∙ sound.kept.fits.count;
        frame = kept_frame;
        listed = kept_listed;
      };
      lawful = mapped_lawful;
    };
    pruned = record { within = still_within; held = still_held };
  }

-- ---- what is known before

module _ (limits : Limits) (shards : Shards) (trees : List Shape) (target : Place) (within : IsWithin limits target) (free : is_held (holdings_of limits shards trees) target ≡ false) where
  -- where nothing is held the word is 0
  pub word_free : entry_at shards target ≡ None
  word_free = by (entry_at shards target) refl
    where
      by : (o : Option Entry) → entry_at shards target ≡ o → o ≡ None
      by None is = refl
      by (Some x) is = absurd (cc (free, ap is_some (present_within limits shards trees target within x is)))

  -- and the place stands in no tree
  pub unlisted : IsPruned limits shards trees → (f : ℕ) → is_listed trees f target ≡ false
  unlisted prune f = false_from_ne_true (is_listed trees f target) (λ listed. cc (prune.held f target listed, ap (has_frame f) word_free))
