-- What strip leaves at each place; it keeps holdings lawful.
use Rattle.std.proofs.Common.{◌≡◌, true, false, Bool, ◌&&◌, not, Option, Some, refl, sym, ap, ◌∙◌, subst, arith, ◌⊎◌, inl, inr}
use Rattle.std.proofs.lemmas.Bool.{and_parts, and_from, or_cases, or_left, or_right}
use Rattle.fpage.specs.Rights.{has, without, is_empty, is_within}
use Rattle.fpage.specs.declared.rights.Rights.{Rights}
use Rattle.space.specs.declared.place.Place.{Place}
use Rattle.model.specs.Definitions.Holdings.{Held, Holdings, PlaceSet, at, is_held, origin_at}
use Rattle.model.specs.Definitions.Derived.{is_under, is_below}
use Rattle.model.specs.Definitions.Strip.{is_narrowed, rights_left, stripped, left_of, strip}
use Rattle.fpage.proofs.RightSets.{has-without, within_from, within_has, within_self, within_trans, larger_not_empty}
use Rattle.model.proofs.LawfulParts.{IsLawful}
use Rattle.model.proofs.Chains.{under_from}
use Rattle.model.proofs.EvenChanges.{IsEven, IsLeftAtLeast, was_held, is_left, lawful_each, under_each, below_each}

-- what is left of a mapping is the mapping, with some rights where it lost some
pub left_is : (loses : Bool) (m k : Held) → left_of loses m ≡ Some k → (k ≡ m) × ((loses && is_empty m.rights) ≡ false)
left_is loses m k left = by (loses && is_empty m.rights) refl
  where
    by : (b : Bool) → (loses && is_empty m.rights) ≡ b → (k ≡ m) × ((loses && is_empty m.rights) ≡ false)
    by true gone = absurd (cc (rw gone at left))
    by false stays = let same : Some m ≡ Some k = rw stays at left in (cc same, stays)

pub left_stays : (loses : Bool) (m : Held) → (loses && is_empty m.rights) ≡ false → left_of loses m ≡ Some m
left_stays loses m stays = rw stays refl

without_within : (a r : Rights) → is_within (without r a) r ≡ true
without_within a r = within_from (without r a) r (λ b held. (and_parts (has r b) (not (has a b)) (sym (has-without r a b) ∙ held)).0)

without_mono : (a r s : Rights) → is_within r s ≡ true → is_within (without r a) (without s a) ≡ true
without_mono a r s within = within_from (without r a) (without s a) (λ b held.
    let parts = and_parts (has r b) (not (has a b)) (sym (has-without r a b) ∙ held) in
    has-without s a b ∙ and_from _ _ (within_has r s b within parts.0) parts.1)

pub left_within : (loses : Bool) (a r : Rights) → is_within (rights_left loses a r) r ≡ true
left_within true a r = without_within a r
left_within false a r = within_self r

-- what derives loses where its origin does
pub left_mono : (loses_o loses_p : Bool) (a r s : Rights) → (loses_o ≡ true → loses_p ≡ true) → is_within r s ≡ true → is_within (rights_left loses_p a r) (rights_left loses_o a s) ≡ true
left_mono true true a r s too within = without_mono a r s within
left_mono true false a r s too within = absurd (cc (too refl))
left_mono false true a r s too within = within_trans (without r a) r s (without_within a r) within
left_mono false false a r s too within = within

module _ (h : Holdings) (set : PlaceSet) (a : Rights) (f : Bool) where
  -- the change that strip makes
  abbrev pub stripping : Place → Held → Option Held
  stripping p m = left_of (is_narrowed h set f p) (stripped h set a f p m)

  module _ (l : IsLawful h) where
    -- what loses rights at a place also loses them where the place is an origin
    narrowed_on : (p o : Place) → origin_at h p ≡ Some o → is_narrowed h set f o ≡ true → is_narrowed h set f p ≡ true
    narrowed_on p o is narrowed = or_left _ _ (under_from h l set p o is (by (or_cases (is_under h set o) (f && set o) narrowed)))
      where
        by : (is_under h set o ≡ true) ⊎ ((f && set o) ≡ true) → is_below h set o ≡ true
        by (inl under) = or_right _ _ under
        by (inr named) = or_left _ _ (and_parts f (set o) named).1

    kept_rights : (p : Place) (m : Held) → at h p ≡ Some m → (is_narrowed h set f p && is_empty (rights_left (is_narrowed h set f p) a m.rights)) ≡ false
        → is_empty (rights_left (is_narrowed h set f p) a m.rights) ≡ false
    kept_rights p m held stays = by (is_narrowed h set f p) stays
      where
        by : (b : Bool) → (b && is_empty (rights_left b a m.rights)) ≡ false → is_empty (rights_left b a m.rights) ≡ false
        by true stays = stays
        by false stays = l.some p m held

    origin_keeps : (p o : Place) (m n k : Held) → at h p ≡ Some m → m.origin ≡ Some o → at h o ≡ Some n → stripping p m ≡ Some k → IsLeftAtLeast stripping o n k
    origin_keeps p o m n k held from held_o left =
        let is = left_is (is_narrowed h set f p) (stripped h set a f p m) k left in
        let origin = l.origin p o m held from in
        let same : origin.held ≡ n = cc (origin.is, held_o) in
        let before : is_within m.rights n.rights ≡ true = subst (λ x. is_within m.rights x.rights ≡ true) same origin.within in
        let here : origin_at h p ≡ Some o = rw held from in
        let after : is_within (rights_left (is_narrowed h set f p) a m.rights) (rights_left (is_narrowed h set f o) a n.rights) ≡ true =
        left_mono (is_narrowed h set f o) (is_narrowed h set f p) a m.rights n.rights (narrowed_on p o here) before in
        let some = larger_not_empty _ _ after (kept_rights p m held is.1) in
        record {
          held = stripped h set a f o n;
          is = left_stays (is_narrowed h set f o) (stripped h set a f o n) (stays_too (is_narrowed h set f o) (rights_left (is_narrowed h set f o) a n.rights) some);
          within = subst (λ x. is_within x.rights (rights_left (is_narrowed h set f o) a n.rights) ≡ true) (sym is.0) after;
        }
      where
        stays_too : (b : Bool) (r : Rights) → is_empty r ≡ false → (b && is_empty r) ≡ false
        stays_too b r some = grind (arith, some)

    pub strip_even : IsEven h stripping
    strip_even = record {
      frame = λ p m k held left. let is = left_is (is_narrowed h set f p) (stripped h set a f p m) k left in ap (λ x. x.frame) is.0;
      origin = λ p m k held left. let is = left_is (is_narrowed h set f p) (stripped h set a f p m) k left in ap (λ x. x.origin) is.0;
      some = λ p m k held left.
          let is = left_is (is_narrowed h set f p) (stripped h set a f p m) k left in
          subst (λ x. is_empty x.rights ≡ false) (sym is.0) (kept_rights p m held is.1);
      even = origin_keeps;
    }

    pub lawful_strip : IsLawful (strip h set a f)
    lawful_strip = lawful_each h stripping l strip_even

    pub strip_under : (other : PlaceSet) (p : Place) → is_held (strip h set a f) p ≡ true → is_under (strip h set a f) other p ≡ is_under h other p
    strip_under other p held = under_each h stripping l strip_even other p held

    pub strip_below : (other : PlaceSet) (p : Place) → is_held (strip h set a f) p ≡ true → is_below (strip h set a f) other p ≡ is_below h other p
    strip_below other p held = below_each h stripping l strip_even other p held

    -- what is held after strip was held before, and is what stripped says
    pub record WasStripped (p : Place) (k : Held) : Type 0 where
      pub before : Held
      pub held : at h p ≡ Some before
      pub is : k ≡ stripped h set a f p before
      pub some : (is_narrowed h set f p && is_empty (stripped h set a f p before).rights) ≡ false

    pub was_stripped : (p : Place) (k : Held) → at (strip h set a f) p ≡ Some k → WasStripped p k
    was_stripped p k is =
        let w = was_held h stripping l p k is in
        let left = left_is (is_narrowed h set f p) (stripped h set a f p w.before) k w.left in
        record { before = w.before; held = w.held; is = left.0; some = left.1 }

    -- what is left with rights is still held
    pub is_stripped : (p : Place) (m : Held) → at h p ≡ Some m → (is_narrowed h set f p && is_empty (stripped h set a f p m).rights) ≡ false → at (strip h set a f) p ≡ Some (stripped h set a f p m)
    is_stripped p m held some = is_left h stripping l p m _ held (left_stays _ _ some)
