-- What the visit of a place leaves: narrowed, and without status, below the place; nothing is passed yet.
use Rattle.std.proofs.Common.{◌≡◌, true, false, Bool, ◌||◌, Option, Some, refl, sym, ◌∙◌, subst, if◌then◌else◌}
use Rattle.fpage.specs.Rights.{no_rights, join, has}
use Rattle.fpage.specs.declared.rights.Rights.{Rights}
use Rattle.fpage.specs.declared.rights.Access.{Access}
use Rattle.space.specs.declared.place.Place.{Place}
use Rattle.model.specs.Definitions.Holdings.{Held, Holdings, PlaceSet, at, is_held, each}
use Rattle.model.specs.Definitions.Derived.{is_below}
use Rattle.model.specs.Definitions.Strip.{is_narrowed, strip_word}
use Rattle.fpage.proofs.RightSets.{has-none}
use Rattle.model.proofs.Lookups.{each_kept}
use Rattle.model.proofs.LawfulParts.{IsLawful}
use Rattle.model.proofs.Chains.{below-union}
use Rattle.model.proofs.EvenChanges.{was_held, is_left}
use Rattle.model.proofs.StripAt.{left_is}
use Rattle.model.proofs.StripUnions.{words_join}
use Rattle.model.proofs.Narrowings.{either, narrowed_to, narrowing, lawful_narrowing, narrowing_below, narrowing-either, not_narrowed}

-- no status below the set, the same status elsewhere
abbrev pub cleared_status : Holdings → PlaceSet → Place → Held → Rights
cleared_status h set p m = if is_below h set p then no_rights else m.status

-- the change that narrows as strip does, and passes nothing
abbrev pub clearing : Holdings → PlaceSet → Rights → Bool → Place → Held → Option Held
clearing h set a f = narrowing h set a f (cleared_status h set)

-- holdings narrowed and cleared below the set
abbrev pub clear : Holdings → PlaceSet → Rights → Bool → Holdings
clear h set a f = each (clearing h set a f) h

module _ (h : Holdings) (set : PlaceSet) (a : Rights) (f : Bool) where
  -- what is not below the set stays as it is
  pub clearing_outside : (p : Place) (m : Held) → is_below h set p ≡ false → clearing h set a f p m ≡ Some m
  clearing_outside p m outside = rw (not_narrowed h set f p outside, outside) refl

  -- to clear what nothing is below changes nothing
  pub clear_nothing : IsLawful h → ((p : Place) → is_held h p ≡ true → is_below h set p ≡ false) → clear h set a f ≡ h
  clear_nothing l nothing = each_kept (clearing h set a f) h l.sorted (λ p m is. clearing_outside p m (nothing p (rw is refl)))

  -- what is left is lawful
  pub lawful_clear : IsLawful h → IsLawful (clear h set a f)
  lawful_clear l = lawful_narrowing h set a f (cleared_status h set) l

  -- what is still held is below the same sets
  pub clear_below : IsLawful h → (other : PlaceSet) (p : Place) → is_held (clear h set a f) p ≡ true → is_below (clear h set a f) other p ≡ is_below h other p
  clear_below l other p held = narrowing_below h set a f (cleared_status h set) l other p held

module _ (h : Holdings) (l : IsLawful h) (X Y : PlaceSet) (a : Rights) (f : Bool) where
  -- to clear one set and then another is to clear both
  pub clear-union : clear (clear h X a f) Y a f ≡ clear h (either X Y) a f
  clear-union = narrowing-either h l X Y a f _ _ _ (λ p m is stays.
      rw (clear_below h X a f l Y p (rw stays refl), below-union h l X Y p) (both m (is_below h X p) (is_below h Y p)))
    where
      both : (m : Held) (x y : Bool) → (if y then no_rights else if x then no_rights else m.status) ≡ (if x || y then no_rights else m.status)
      both m true true = refl
      both m true false = refl
      both m false y = refl

  -- what has a status bit after the first had it before, outside the first set
  had_bit : (p : Place) (k : Held) (b : Access) → at (clear h X a f) p ≡ Some k → has k.status b ≡ true → (m : Held) × (at h p ≡ Some m) × (has m.status b ≡ true)
  had_bit p k b is bit =
      let w = was_held h (clearing h X a f) l p k is in
      let same = (left_is (is_narrowed h X f p) (narrowed_to (is_narrowed h X f p) a w.before (cleared_status h X p w.before)) k w.left).0 in
      (w.before, w.held, by w.before (is_below h X p) (subst (λ x. has x.status b ≡ true) same bit))
    where
      by : (m : Held) (x : Bool) → has (if x then no_rights else m.status) b ≡ true → has m.status b ≡ true
      by m true bit = absurd (cc (bit, has-none b))
      by m false bit = bit

  -- and the words of the two join to the word of both
  pub clear_word-union : join (strip_word h X) (strip_word (clear h X a f) Y) ≡ strip_word h (either X Y)
  clear_word-union = words_join h (clear h X a f) l (lawful_clear h X a f l) X Y
      (λ b s.
      let m = had_bit s.place s.held b s.is s.bit in
      record { place = s.place; held = m.0; is = m.1; within = sym (clear_below h X a f l Y s.place (rw (s.is) refl)) ∙ s.within; bit = m.2 })
      (λ b s outside.
      let k : at (clear h X a f) s.place ≡ Some s.held = is_left h (clearing h X a f) l s.place s.held s.held s.is (clearing_outside h X a f s.place s.held outside) in
      record { place = s.place; held = s.held; is = k; within = clear_below h X a f l Y s.place (rw k refl) ∙ s.within; bit = s.bit })
