-- An access marks the status in one word, or is a fault.
use Rattle.std.proofs.Common.{◌≡◌, true, false, List, Option, Some, None, refl, sym, ap, ◌∙◌, subst, ◌⊎◌, inl, inr, if◌then◌else◌}
use Rattle.std.specs.Option.{option_map, option_map_or}
use Rattle.fpage.specs.Rights.{has, join, marks}
use Rattle.fpage.specs.declared.rights.Access.{Access}
use Rattle.space.specs.declared.place.Place.{Place}
use Rattle.space.specs.declared.place.Entry.{Entry}
use Rattle.space.specs.declared.shards.Shards.{Shards}
use Rattle.space.specs.Place.{same_place}
use Rattle.space.specs.Shards.{entry_at}
use Rattle.space.proofs.Places.{same_or_apart, same_self, apart_back}
use Rattle.maptree.specs.Origins.{Shape}
use Rattle.model.specs.Definitions.Holdings.{Held, Holdings, each}
use Rattle.model.specs.Definitions.Calls.{Limits}
use Rattle.model.specs.Definitions.Lawful.{is_lawful}
use Rattle.model.specs.Definitions.Touch.{can_touch, marked, touch}
use Rattle.model.proofs.Lookups.{changed}
use Rattle.model.proofs.Touches.{touch_keeps_lawful}
use Rattle.holdings.specs.Places.{IsWithin}
use Rattle.holdings.specs.Inner.Held.{held_of, held_at, has_frame, holdings_of}
use Rattle.holdings.specs.Inner.Sound.{IsFitting, IsSound}
use Rattle.holdings.proofs.Contents.Listing.{listing_each}
use Rattle.holdings.proofs.Contents.Holders.{place_within, held_there, held_elsewhere, absent_within, present_within}
use Rattle.holdings.proofs.Contents.WordChanges.{IsWordSet, sound_set}
use Rattle.std.proofs.lemmas.Bool.{eq-eqb}

-- ---- which accesses are made

pub touch_fault : (h : Holdings) (p : Place) (a : Access) → can_touch h p a ≡ false → touch h p a ≡ h
touch_fault h p a fault = rw fault refl

module _ (limits : Limits) (shards : Shards) (trees : List Shape) (p : Place) (a : Access) (within : IsWithin limits p) where
  pub can_touch_absent : entry_at shards p ≡ None → can_touch (holdings_of limits shards trees) p a ≡ false
  can_touch_absent is = ap (λ o. option_map_or (λ m. has m.rights a) o false) (absent_within limits shards trees p within is)

  pub can_touch_present : (e : Entry) → entry_at shards p ≡ Some e → can_touch (holdings_of limits shards trees) p a ≡ has e.rights a
  can_touch_present e is = ap (λ o. option_map_or (λ m. has m.rights a) o false) (present_within limits shards trees p within e is)

-- ---- one access that is made

-- the change that it makes
abbrev touching : Place → Access → Place → Held → Option Held
touching p a q m = Some (if same_place p q then marked a m else m)

-- the entry with the access's marks
abbrev pub marked_entry : Access → Entry → Entry
marked_entry a e = record e { status = join e.status (marks a) }

module _ (limits : Limits) (old new : Shards) (trees : List Shape) (q : Place) (a : Access) (e : Entry) where
  module _ (fits : IsFitting limits old trees) (w : IsWordSet old new q (Some (marked_entry a e))) (within : IsWithin limits q) (stood : entry_at old q ≡ Some e) (right : has e.rights a ≡ true) where
    marks_there : (p : Place) → IsWithin limits p → (q ≡ p) ⊎ (same_place q p ≡ false) → held_at new trees p ≡ changed (touching q a) p (held_at old trees p)
    marks_there p p_within (inl same) =
        let before : held_at old trees q ≡ Some (held_of trees q e) = ap (option_map (held_of trees q)) stood in
        subst (λ x. held_at new trees x ≡ changed (touching q a) x (held_at old trees x)) same
        (held_there old new trees q (Some (marked_entry a e)) w.set ∙ sym (ap (changed (touching q a) q) before ∙ ap (λ b. Some (if b then marked a (held_of trees q e) else held_of trees q e)) (same_self q)))
    marks_there p p_within (inr apart) =
        held_elsewhere old new trees q (Some (marked_entry a e)) w.set p (place_within limits old trees fits p p_within) (apart_back q p apart) ∙ stays (held_at old trees p)
      where
        stays : (o : Option Held) → o ≡ changed (touching q a) p o
        stays None = refl
        stays (Some m) = ap (λ b. Some (if b then marked a m else m)) (sym apart)

    -- the holdings are those of the definition
    pub touched : holdings_of limits new trees ≡ touch (holdings_of limits old trees) q a
    touched =
        let made : can_touch (holdings_of limits old trees) q a ≡ true = can_touch_present limits old trees q a within e stood ∙ right in
        listing_each limits (held_at old trees) (held_at new trees) (touching q a) (λ p p_within. marks_there p p_within (same_or_apart q p))
        ∙ sym (ap (λ b. if b then each (touching q a) (holdings_of limits old trees) else holdings_of limits old trees) made)

  -- words and trees stay sound
  pub touched_sound : IsSound limits old trees → IsWordSet old new q (Some (marked_entry a e)) → IsWithin limits q → entry_at old q ≡ Some e → has e.rights a ≡ true → IsSound limits new trees
  touched_sound sound w within stood right =
      sound_set limits old new trees q (Some (marked_entry a e)) w (marked_entry a e) refl (ap (has_frame e.frame) stood ∙ eq-eqb e.frame e.frame refl) sound
      (ap is_lawful (touched sound.kept.fits w within stood right) ∙ touch_keeps_lawful (holdings_of limits old trees) sound.kept.lawful q a)
