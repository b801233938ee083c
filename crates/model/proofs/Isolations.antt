-- The laws of isolation.
use Rattle.std.proofs.Common.{◌≡◌, true, false, Bool, ◌&&◌, not, Option, Some, None, refl, sym, ap, ◌∙◌, subst, arith, ◌⊎◌, inl, inr}
use Rattle.std.proofs.lemmas.Bool.{or_cases, or_left, or_right, and_parts, and_from}
use Rattle.fpage.specs.Rights.{has, without, is_empty}
use Rattle.fpage.specs.declared.rights.Rights.{Rights}
use Rattle.fpage.specs.declared.rights.Access.{Access}
use Rattle.space.specs.declared.place.Place.{Place}
use Rattle.space.specs.Place.{same_place}
use Rattle.model.specs.Definitions.Holdings.{Held, Holdings, PlaceSet, only, at, origin_at}
use Rattle.model.specs.Definitions.Derived.{is_under, is_below}
use Rattle.model.specs.Definitions.Strip.{is_narrowed, rights_left, stripped, strip}
use Rattle.model.specs.Laws.IsolationLaws.{Loses, Before, Isolates, StripIsolates, DerivedGoesToo}
use Rattle.space.proofs.Places.{same_is}
use Rattle.fpage.proofs.RightSets.{has-without, within_has, empty_has, empty_from}
use Rattle.model.proofs.Lookups.{at_each, changed}
use Rattle.model.proofs.LawfulParts.{IsLawful, lawful_parts}
use Rattle.model.proofs.Chains.{along, below_cases, held_with_origin}
use Rattle.model.proofs.StripAt.{left_within, stripping, lawful_strip, was_stripped, is_stripped}
use Rattle.model.proofs.Derivations.{under_leads, leads_under, leads_below}

-- a right that is not taken stays
other_stays : (loses : Bool) (a r : Rights) (b : Access) → has a b ≡ false → has (rights_left loses a r) b ≡ has r b
other_stays true a r b spared = has-without r a b ∙ and_not (has r b) (has a b) spared
  where
    and_not : (x y : Bool) → y ≡ false → (x && not y) ≡ x
    and_not x y is = grind (arith, is)
other_stays false a r b spared = refl

module _ (h : Holdings) (l : IsLawful h) (set : PlaceSet) (a : Rights) (f : Bool) where
  narrowed_loses : (p : Place) → is_narrowed h set f p ≡ true → Loses h set f p
  narrowed_loses p narrowed = by (or_cases (is_under h set p) (f && set p) narrowed)
    where
      by : (is_under h set p ≡ true) ⊎ ((f && set p) ≡ true) → Loses h set f p
      by (inl under) = inl (under_leads h l set p under)
      by (inr named) = let parts = and_parts f (set p) named in inr (parts.0, parts.1)

  loses_narrowed : (p : Place) → Loses h set f p → is_narrowed h set f p ≡ true
  loses_narrowed p (inl chain) = or_left _ _ (leads_under h l set p chain)
  loses_narrowed p (inr (f_set, named)) = or_right _ _ (and_from _ _ f_set named)

  not_narrowed : (p : Place) → (Loses h set f p → ⊥) → is_narrowed h set f p ≡ false
  not_narrowed p none = by (is_narrowed h set f p) refl
    where
      by : (b : Bool) → is_narrowed h set f p ≡ b → b ≡ false
      by true is = absurd (none (narrowed_loses p is))
      by false is = refl

  -- what is left of a mapping that loses
  lost_right : (r : Rights) (b : Access) → has a b ≡ true → has (rights_left true a r) b ≡ false
  lost_right r b taken = has-without r a b ∙ and_taken (has r b) (has a b) taken
    where
      and_taken : (x y : Bool) → y ≡ true → (x && not y) ≡ false
      and_taken x y is = grind (arith, is)

  left_rights : (p : Place) (m k : Held) → at h p ≡ Some m → at (strip h set a f) p ≡ Some k → k.rights ≡ rights_left (is_narrowed h set f p) a m.rights
  left_rights p m k held left =
      let w = was_stripped h set a f l p k left in
      let same : w.before ≡ m = cc (w.held, held) in
      ap (λ x. x.rights) w.is ∙ ap (λ x. rights_left (is_narrowed h set f p) a x.rights) same

  before : (p : Place) (k : Held) → at (strip h set a f) p ≡ Some k → Before h p k
  before p k left =
      let w = was_stripped h set a f l p k left in
      record {
        held = w.before;
        is = w.held;
        kept = record {
          frame = ap (λ x. x.frame) w.is;
          origin = ap (λ x. x.origin) w.is;
          no_gain = λ b has_it. within_has (rights_left (is_narrowed h set f p) a w.before.rights) w.before.rights b (left_within (is_narrowed h set f p) a w.before.rights) (subst (λ x. has x.rights b ≡ true) w.is has_it);
        };
      }

  -- what strip leaves at a place where something is held
  at_strip : (p : Place) (m : Held) → at h p ≡ Some m → at (strip h set a f) p ≡ stripping h set a f p m
  at_strip p m held = at_each (stripping h set a f) h p l.sorted ∙ ap (changed (stripping h set a f) p) held

  gone_is : (p : Place) (m : Held) → at h p ≡ Some m → at (strip h set a f) p ≡ None → (is_narrowed h set f p ≡ true) × (is_empty (rights_left (is_narrowed h set f p) a m.rights) ≡ true)
  gone_is p m held none = by (is_narrowed h set f p && is_empty (rights_left (is_narrowed h set f p) a m.rights)) refl
    where
      by : (b : Bool) → (is_narrowed h set f p && is_empty (rights_left (is_narrowed h set f p) a m.rights)) ≡ b
          → (is_narrowed h set f p ≡ true) × (is_empty (rights_left (is_narrowed h set f p) a m.rights) ≡ true)
      by true is = and_parts _ _ is
      by false is = absurd (cc (is_stripped h set a f l p m held is, none))

  all_taken : (p : Place) (m : Held) → at h p ≡ Some m → at (strip h set a f) p ≡ None → (b : Access) → has m.rights b ≡ true → has a b ≡ true
  all_taken p m held none b has_it =
      let is = gone_is p m held none in
      let empty : is_empty (without m.rights a) ≡ true = subst (λ x. is_empty (rights_left x a m.rights) ≡ true) is.0 is.1 in
      taken (has m.rights b) (has a b) (sym (has-without m.rights a b) ∙ empty_has (without m.rights a) b empty) has_it
    where
      taken : (x y : Bool) → (x && not y) ≡ false → x ≡ true → y ≡ true
      taken x y none is = grind (arith, none, is)

  goes : (p : Place) (m : Held) → at h p ≡ Some m → Loses h set f p → ((b : Access) → has m.rights b ≡ true → has a b ≡ true) → at (strip h set a f) p ≡ None
  goes p m held loses taken =
      let narrowed = loses_narrowed p loses in
      let empty : is_empty (without m.rights a) ≡ true = empty_from (without m.rights a) (λ b. has-without m.rights a b ∙ none (has m.rights b) (has a b) (taken b)) in
      let gone : (is_narrowed h set f p && is_empty (rights_left (is_narrowed h set f p) a m.rights)) ≡ true =
      and_from _ _ narrowed (subst (λ x. is_empty (rights_left x a m.rights) ≡ true) (sym narrowed) empty) in
      at_strip p m held ∙ rw gone refl
    where
      none : (x y : Bool) → (x ≡ true → y ≡ true) → (x && not y) ≡ false
      none true y taken = rw (taken refl) refl
      none false y taken = refl

  pub isolates : Isolates h (strip h set a f) set a f
  isolates = record {
    revoked = λ p k loses left b taken.
        let w = was_stripped h set a f l p k left in
        let rights : k.rights ≡ rights_left true a w.before.rights = left_rights p w.before k w.held left ∙ ap (λ x. rights_left x a w.before.rights) (loses_narrowed p loses) in
        ap (λ x. has x b) rights ∙ lost_right w.before.rights b taken;
    others = λ p m k held left b spared.
        ap (λ x. has x b) (left_rights p m k held left) ∙ other_stays (is_narrowed h set f p) a m.rights b spared;
    outside = λ p m held none.
        let stays = not_narrowed p none in
        record {
          held = stripped h set a f p m;
          is = is_stripped h set a f l p m held (rw stays refl);
          same = ap (λ x. rights_left x a m.rights) stays;
        };
    kept = before;
    gone = λ p m held. (λ none. (narrowed_loses p (gone_is p m held none).0, all_taken p m held none), λ c. goes p m held c.0 c.1);
  }

pub strip_isolates : StripIsolates
strip_isolates h lawful set a f = isolates h (lawful_parts h lawful) set a f

-- ---- what derives from a page that is gone

module _ (h left : Holdings) (l : IsLawful h) (l' : IsLawful left) (kept : (p : Place) (k : Held) → at left p ≡ Some k → Before h p k) (q : Place) (gone : at left q ≡ None) where
  pub gone_below : (p : Place) → is_below h (only q) p ≡ true → at left p ≡ None
  gone_below = along h l (λ p. is_below h (only q) p ≡ true → at left p ≡ None) (λ p ih below. by p ih (below_cases h l (only q) p below) (at left p) refl)
    where
      by : (p : Place) → ((o : Place) → origin_at h p ≡ Some o → is_below h (only q) o ≡ true → at left o ≡ None)
          → (same_place q p ≡ true) ⊎ ((o : Place) × (origin_at h p ≡ Some o) × (is_below h (only q) o ≡ true)) → (k : Option Held) → at left p ≡ k → at left p ≡ None
      by p ih c None is = is
      by p ih (inl same) (Some k) is = absurd (cc (gone, is, ap (at left) (same_is q p same)))
      by p ih (inr (o, from, below)) (Some k) is =
          let b = kept p k is in
          let m = held_with_origin h p o from in
          let same : m.0 ≡ b.held = cc (m.1, b.is) in
          let after : k.origin ≡ Some o = b.kept.origin ∙ subst (λ x. x.origin ≡ Some o) same m.2 in
          let origin = l'.origin p o k is after in
          absurd (cc (ih o from below, origin.is))

pub derived_goes_too : DerivedGoesToo
derived_goes_too h lawful set a f q gone p chain =
    let l = lawful_parts h lawful in
    gone_below h (strip h set a f) l (lawful_strip h set a f l) (λ p k left. before h l set a f p k left) q gone p (leads_below h l (only q) p chain)
