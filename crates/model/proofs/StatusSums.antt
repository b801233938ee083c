-- A union of status has a bit where a mapping of the set has it.
use Rattle.std.proofs.Common.{◌≡◌, true, false, Bool, ◌&&◌, ◌||◌, [], ◌∷◌, Option, Some, None, refl, sym, ap, ◌∙◌, subst, ◌⊎◌, inl, inr, if◌then◌else◌}
use Rattle.std.specs.FinMap.Entries.{below_all, is_sorted}
use Rattle.std.specs.Option.{option_map_or}
use Rattle.std.proofs.lemmas.Bool.{and_parts, and_from, or_cases, or_left, or_right}
use Rattle.fpage.specs.Rights.{no_rights, has}
use Rattle.fpage.specs.declared.rights.Rights.{Rights}
use Rattle.fpage.specs.declared.rights.Access.{Access}
use Rattle.space.specs.declared.place.Place.{Place}
use Rattle.space.specs.Place.{place_cmp, same_place}
use Rattle.model.specs.Definitions.Holdings.{Held, Holdings, PlaceSet, only, at, derives_from}
use Rattle.model.specs.Definitions.Derived.{is_below}
use Rattle.model.specs.Definitions.Strip.{status_over, strip_word, gain_from, passed_to}
use Rattle.space.proofs.Places.{same_is, same_self}
use Rattle.fpage.proofs.RightSets.{has-join, has-none}
use Rattle.model.proofs.Lookups.{Sorted, later, first_held, held_cases}

has_if : (b : Bool) (r : Rights) (a : Access) → has (if b then r else no_rights) a ≡ (b && has r a)
has_if true r a = refl
has_if false r a = has-none a

-- a mapping of a set, with a status bit
pub record HasStatus (h : Holdings) (set : PlaceSet) (a : Access) : Type 0 where
  pub place : Place
  pub held : Held
  pub is : at h place ≡ Some held
  pub within : set place ≡ true
  pub bit : has held.status a ≡ true

module _ (set : PlaceSet) (a : Access) where
  has_over : (e : Place × Held) (h : Holdings) → has (status_over set (e ∷ h)) a ≡ ((set e.0 && has e.1.status a) || has (status_over set h) a)
  has_over e h = has-join (if set e.0 then e.1.status else no_rights) (status_over set h) a ∙ ap (λ b. b || has (status_over set h) a) (has_if (set e.0) e.1.status a)

  pub over_has : (h : Holdings) (p : Place) (m : Held) → at h p ≡ Some m → set p ≡ true → has m.status a ≡ true → has (status_over set h) a ≡ true
  over_has [] p m held within bit = absurd (cc held)
  over_has (e ∷ h) p m held within bit = has_over e h ∙ by (held_cases e h p m held) (λ k. over_has h p m k within bit)
    where
      by : ((p ≡ e.0) × (m ≡ e.1)) ⊎ (at h p ≡ Some m) → (at h p ≡ Some m → has (status_over set h) a ≡ true) → ((set e.0 && has e.1.status a) || has (status_over set h) a) ≡ true
      by (inl (same, is)) rest = or_left _ _ (and_from _ _ (rw same at within) (rw is at bit))
      by (inr k) rest = or_right _ _ (rest k)

  pub over_from : (h : Holdings) → Sorted h → has (status_over set h) a ≡ true → HasStatus h set a
  over_from [] sorted bit = absurd (cc (bit, has-none a))
  over_from (e ∷ h) sorted bit = by (or_cases (set e.0 && has e.1.status a) (has (status_over set h) a) (sym (has_over e h) ∙ bit)) (over_from h (and_parts (below_all place_cmp e.0 h) (is_sorted place_cmp h) sorted).1)
    where
      by : ((set e.0 && has e.1.status a) ≡ true) ⊎ (has (status_over set h) a ≡ true) → (has (status_over set h) a ≡ true → HasStatus h set a) → HasStatus (e ∷ h) set a
      by (inl here) rest =
          let parts = and_parts (set e.0) (has e.1.status a) here in
          record { place = e.0; held = e.1; is = first_held e h; within = parts.0; bit = parts.1 }
      by (inr there) rest =
          let s = rest there in
          record { place = s.place; held = s.held; is = later e h s.place s.held sorted s.is; within = s.within; bit = s.bit }

-- a mapping below a set, from an origin, that has a status bit below it
pub record Passes (h all : Holdings) (set : PlaceSet) (o : Place) (a : Access) : Type 0 where
  pub place : Place
  pub held : Held
  pub is : at h place ≡ Some held
  pub origin : held.origin ≡ Some o
  pub below : is_below all set place ≡ true
  pub bit : has (strip_word all (only place)) a ≡ true

derives_is : (o : Place) (from : Option Place) → option_map_or (same_place o) from false ≡ true → from ≡ Some o
derives_is o None test = absurd (cc test)
derives_is o (Some p) test = ap Some (sym (same_is o p test))

pub derives_from_is : (o : Place) (m : Held) → derives_from o m ≡ true → m.origin ≡ Some o
derives_from_is o m test = derives_is o m.origin test

pub is_derives_from : (o : Place) (m : Held) → m.origin ≡ Some o → derives_from o m ≡ true
is_derives_from o m is = rw is (same_self o)

module _ (all : Holdings) (set : PlaceSet) (o : Place) (a : Access) where
  has_gain : (e : Place × Held) (h : Holdings)
      → has (gain_from all set o (e ∷ h)) a ≡ (((derives_from o e.1 && is_below all set e.0) && has (strip_word all (only e.0)) a) || has (gain_from all set o h) a)
  has_gain e h =
      has-join (if derives_from o e.1 && is_below all set e.0 then strip_word all (only e.0) else no_rights) (gain_from all set o h) a
      ∙ ap (λ b. b || has (gain_from all set o h) a) (has_if (derives_from o e.1 && is_below all set e.0) (strip_word all (only e.0)) a)

  gain_has : (h : Holdings) (c : Place) (m : Held) → at h c ≡ Some m → m.origin ≡ Some o → is_below all set c ≡ true → has (strip_word all (only c)) a ≡ true → has (gain_from all set o h) a ≡ true
  gain_has [] c m held from below bit = absurd (cc held)
  gain_has (e ∷ h) c m held from below bit = has_gain e h ∙ by (held_cases e h c m held) (λ k. gain_has h c m k from below bit)
    where
      by : ((c ≡ e.0) × (m ≡ e.1)) ⊎ (at h c ≡ Some m) → (at h c ≡ Some m → has (gain_from all set o h) a ≡ true)
          → (((derives_from o e.1 && is_below all set e.0) && has (strip_word all (only e.0)) a) || has (gain_from all set o h) a) ≡ true
      by (inl (same, is)) rest =
          let here : derives_from o e.1 ≡ true = is_derives_from o e.1 (subst (λ k. k.origin ≡ Some o) is from) in
          let inside : is_below all set e.0 ≡ true = subst (λ p. is_below all set p ≡ true) same below in
          let set_bit : has (strip_word all (only e.0)) a ≡ true = subst (λ p. has (strip_word all (only p)) a ≡ true) same bit in
          or_left _ _ (and_from _ _ (and_from _ _ here inside) set_bit)
      by (inr k) rest = or_right _ _ (rest k)

  gain_is_from : (h : Holdings) → Sorted h → has (gain_from all set o h) a ≡ true → Passes h all set o a
  gain_is_from [] sorted bit = absurd (cc (bit, has-none a))
  gain_is_from (e ∷ h) sorted bit =
      by (or_cases ((derives_from o e.1 && is_below all set e.0) && has (strip_word all (only e.0)) a) (has (gain_from all set o h) a) (sym (has_gain e h) ∙ bit))
      (gain_is_from h (and_parts (below_all place_cmp e.0 h) (is_sorted place_cmp h) sorted).1)
    where
      by : (((derives_from o e.1 && is_below all set e.0) && has (strip_word all (only e.0)) a) ≡ true) ⊎ (has (gain_from all set o h) a ≡ true)
          → (has (gain_from all set o h) a ≡ true → Passes h all set o a) → Passes (e ∷ h) all set o a
      by (inl here) rest =
          let parts = and_parts (derives_from o e.1 && is_below all set e.0) (has (strip_word all (only e.0)) a) here in
          let both = and_parts (derives_from o e.1) (is_below all set e.0) parts.0 in
          record { place = e.0; held = e.1; is = first_held e h; origin = derives_from_is o e.1 both.0; below = both.1; bit = parts.1 }
      by (inr there) rest =
          let s = rest there in
          record { place = s.place; held = s.held; is = later e h s.place s.held sorted s.is; origin = s.origin; below = s.below; bit = s.bit }

module _ (h : Holdings) (set : PlaceSet) (o : Place) (a : Access) where
  -- an outside place gains a bit where something that derives from it and is below the set passes it
  pub passed_has : (c : Place) (m : Held) → at h c ≡ Some m → m.origin ≡ Some o → is_below h set c ≡ true → has (strip_word h (only c)) a ≡ true → has (passed_to h set o) a ≡ true
  passed_has c m held from below bit = gain_has h set o a h c m held from below bit

  pub passed_from : Sorted h → has (passed_to h set o) a ≡ true → Passes h h set o a
  passed_from sorted bit = gain_is_from h set o a h sorted bit

-- a word has a bit where a status that has it is below the set
pub word_has : {h : Holdings} {set : PlaceSet} {a : Access} (s : HasStatus h set a) (other : PlaceSet) → is_below h other s.place ≡ true → has (strip_word h other) a ≡ true
word_has {h} {set} {a} s other inside = over_has (is_below h other) a h s.place s.held s.is inside s.bit

-- and only there
pub word_from : (h : Holdings) → Sorted h → (set : PlaceSet) (a : Access) → has (strip_word h set) a ≡ true → HasStatus h (is_below h set) a
word_from h sorted set a bit = over_from (is_below h set) a h sorted bit
