-- A change that keeps frames and origins, and shrinks rights evenly along origins, keeps holdings lawful.
use Rattle.std.proofs.Common.{◌≡◌, ℕ, zero, suc, true, false, ◌||◌, length, Option, Some, None, refl, sym, ap, ◌∙◌, subst}
use Rattle.std.specs.Option.{option_and_then, is_some}
use Rattle.fpage.specs.Rights.{is_empty, is_within}
use Rattle.space.specs.declared.place.Place.{Place}
use Rattle.model.specs.Definitions.Holdings.{Held, Holdings, PlaceSet, at, is_held, origin_at, each}
use Rattle.model.specs.Definitions.Derived.{is_under, is_below}
use Rattle.model.specs.Definitions.Lawful.{ends}
use Rattle.model.proofs.Lookups.{changed, at_each, sorted_each}
use Rattle.model.proofs.LawfulParts.{IsLawful, IsOrigin}
use Rattle.model.proofs.Chains.{is_origin_below, under_below, along, origin_is_held}
use Rattle.model.proofs.ChainLengths.{OriginsHeld, IsHeldIfAny, ends_within_length}

-- what an origin is left
pub record IsLeftAtLeast (change : Place → Held → Option Held) (o : Place) (n k : Held) : Type 0 where
  pub held : Held
  pub is : change o n ≡ Some held
  pub within : is_within k.rights held.rights ≡ true

-- a change is even: it keeps frame and origin, leaves rights, and an origin keeps at least the rights of what derives
-- from it
pub record IsEven (h : Holdings) (change : Place → Held → Option Held) : Type 0 where
  pub frame : (p : Place) (m k : Held) → at h p ≡ Some m → change p m ≡ Some k → k.frame ≡ m.frame
  pub origin : (p : Place) (m k : Held) → at h p ≡ Some m → change p m ≡ Some k → k.origin ≡ m.origin
  pub some : (p : Place) (m k : Held) → at h p ≡ Some m → change p m ≡ Some k → is_empty k.rights ≡ false
  pub even : (p o : Place) (m n k : Held) → at h p ≡ Some m → m.origin ≡ Some o → at h o ≡ Some n → change p m ≡ Some k → IsLeftAtLeast change o n k

-- what was held before the change
pub record WasHeld (h : Holdings) (change : Place → Held → Option Held) (p : Place) (k : Held) : Type 0 where
  pub before : Held
  pub held : at h p ≡ Some before
  pub left : change p before ≡ Some k

changed_from : (h : Holdings) (change : Place → Held → Option Held) (p : Place) (k : Held) (m : Option Held) → at h p ≡ m → changed change p m ≡ Some k → WasHeld h change p k
changed_from h change p k None is left = absurd (cc left)
changed_from h change p k (Some m) is left = record { before = m; held = is; left = left }

module _ (h : Holdings) (change : Place → Held → Option Held) (l : IsLawful h) where
  pub was_held : (p : Place) (k : Held) → at (each change h) p ≡ Some k → WasHeld h change p k
  was_held p k is = changed_from h change p k (at h p) refl (sym (at_each change h p l.sorted) ∙ is)

  pub is_left : (p : Place) (m k : Held) → at h p ≡ Some m → change p m ≡ Some k → at (each change h) p ≡ Some k
  is_left p m k held left = at_each change h p l.sorted ∙ ap (changed change p) held ∙ left

  module _ (e : IsEven h change) where
    -- what is still held has the origin that it had
    pub same_origin : (p : Place) → is_held (each change h) p ≡ true → origin_at (each change h) p ≡ origin_at h p
    same_origin p held = by (at (each change h) p) refl held
      where
        by : (k : Option Held) → at (each change h) p ≡ k → is_some k ≡ true → origin_at (each change h) p ≡ origin_at h p
        by None is held = absurd (cc held)
        by (Some k) is held =
            let w = was_held p k is in
            ap (option_and_then (λ m. m.origin)) is ∙ e.origin p w.before k w.held w.left ∙ sym (ap (option_and_then (λ m. m.origin)) w.held)

    origin_of : (p o : Place) (k : Held) → at (each change h) p ≡ Some k → k.origin ≡ Some o → IsOrigin (each change h) o k
    origin_of p o k is from =
        let w = was_held p k is in
        let from_before : w.before.origin ≡ Some o = sym (e.origin p w.before k w.held w.left) ∙ from in
        let before = l.origin p o w.before w.held from_before in
        let left = e.even p o w.before before.held k w.held from_before before.is w.left in
        record {
          held = left.held;
          is = is_left o before.held left.held before.is left.is;
          frame = e.frame p w.before k w.held w.left ∙ before.frame ∙ sym (e.frame o before.held left.held before.is left.is);
          within = left.within;
        }

    origins_held : OriginsHeld (each change h)
    origins_held p o k is from = let origin = origin_of p o k is from in (origin.held, origin.is)

    still_ends : (n : ℕ) (o : Option Place) → IsHeldIfAny (each change h) o → ends n h o ≡ true → ends n (each change h) o ≡ true
    still_ends zero None held end = refl
    still_ends zero (Some q) held end = absurd (cc end)
    still_ends (suc n) None held end = refl
    still_ends (suc n) (Some q) held end =
        let k = held q refl in
        let same = same_origin q (rw k.1 refl) in
        let here : origin_at (each change h) q ≡ k.0.origin = ap (option_and_then (λ m. m.origin)) k.1 in
        still_ends n (origin_at (each change h) q) (λ o is. origins_held q o k.0 k.1 (sym here ∙ is)) (subst (λ o. ends n h o ≡ true) (sym same) end)

    pub lawful_each : IsLawful (each change h)
    lawful_each = record {
      sorted = sorted_each change h l.sorted;
      some = λ p k is. let w = was_held p k is in e.some p w.before k w.held w.left;
      origin = origin_of;
      ending = λ p k is.
          let w = was_held p k is in
          let any : IsHeldIfAny (each change h) k.origin = λ o from. origins_held p o k is from in
          let before : ends (length h) h k.origin ≡ true = subst (λ o. ends (length h) h o ≡ true) (sym (e.origin p w.before k w.held w.left)) (l.ending p w.before w.held) in
          ends_within_length (each change h) origins_held (length h) k.origin any (still_ends (length h) k.origin any before);
      root = λ p q m k is_p is_q none_p none_q frame.
          let v = was_held p m is_p in
          let w = was_held q k is_q in
          l.root p q v.before w.before v.held w.held (sym (e.origin p v.before m v.held v.left) ∙ none_p) (sym (e.origin q w.before k w.held w.left) ∙ none_q)
          (sym (e.frame q w.before k w.held w.left) ∙ frame ∙ e.frame p v.before m v.held v.left);
    }

    -- what is still held is under the same sets
    pub under_each : (set : PlaceSet) (p : Place) → is_held (each change h) p ≡ true → is_under (each change h) set p ≡ is_under h set p
    under_each set = along (each change h) lawful_each (λ p. is_held (each change h) p ≡ true → is_under (each change h) set p ≡ is_under h set p)
        (λ p ih held. by p held (origin_at (each change h) p) refl ih)
      where
        by : (p : Place) → is_held (each change h) p ≡ true → (o : Option Place) → origin_at (each change h) p ≡ o
            → ((q : Place) → o ≡ Some q → is_held (each change h) q ≡ true → is_under (each change h) set q ≡ is_under h set q)
            → is_under (each change h) set p ≡ is_under h set p
        by p held o is ih =
            under_below (each change h) lawful_each set p ∙ ap (is_origin_below (each change h) set) is ∙ below o is ih
            ∙ sym (under_below h l set p ∙ ap (is_origin_below h set) (sym (same_origin p held) ∙ is))
          where
            below : (o : Option Place) → origin_at (each change h) p ≡ o → ((q : Place) → o ≡ Some q → is_held (each change h) q ≡ true → is_under (each change h) set q ≡ is_under h set q)
                → is_origin_below (each change h) set o ≡ is_origin_below h set o
            below None is ih = refl
            below (Some q) is ih = ap (λ b. set q || b) (ih q refl (origin_is_held (each change h) lawful_each p q is))

    pub below_each : (set : PlaceSet) (p : Place) → is_held (each change h) p ≡ true → is_below (each change h) set p ≡ is_below h set p
    below_each set p held = ap (λ b. set p || b) (under_each set p held)
