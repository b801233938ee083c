-- What an access is answered, and what it leaves.
use Rattle.std.proofs.Common.{◌≡◌, true, false, Bool, Option, Some, None, refl, sym, ap, ◌∙◌, if◌then◌else◌}
use Rattle.std.specs.Option.{option_map_or}
use Rattle.std.proofs.Math.Bool.{or-false, or-true}
use Rattle.std.proofs.lemmas.Bool.{false_from_ne_true}
use Rattle.fpage.specs.Rights.{has, join, marks}
use Rattle.fpage.specs.declared.rights.Rights.{Rights}
use Rattle.fpage.specs.declared.rights.Access.{Access}
use Rattle.fpage.specs.declared.rights.Access.TheVariants.{Read, Write, Execute}
use Rattle.space.specs.declared.place.Place.{Place}
use Rattle.space.specs.Place.{same_place}
use Rattle.model.specs.Definitions.Holdings.{Held, Holdings, at, each}
use Rattle.model.specs.Definitions.Touch.{can_touch, marked, touch}
use Rattle.model.specs.Definitions.Calls.{Limits, accessed}
use Rattle.model.specs.Laws.TouchLaws.{Allows, LeavesMarks, MayAccess, IsAccessed, AccessSays}
use Rattle.space.proofs.Places.{same_self}
use Rattle.model.proofs.Lookups.{changed, at_each}
use Rattle.model.proofs.LawfulParts.{IsLawful, lawful_parts}
use Rattle.model.proofs.Puts.{apart_places}

has_allows : (r : Rights) (a : Access) → has r a ≡ true → Allows r a
has_allows r Read is = is
has_allows r Write is = is
has_allows r Execute is = is

allows_has : (r : Rights) (a : Access) → Allows r a → has r a ≡ true
allows_has r Read is = is
allows_has r Write is = is
allows_has r Execute is = is

join_marks : (a : Access) (s : Rights) → LeavesMarks a s (join s (marks a))
join_marks Read s = rw (or-true s.read, or-false s.write, or-false s.execute) refl
join_marks Write s = rw (or-true s.read, or-true s.write, or-false s.execute) refl
join_marks Execute s = rw (or-true s.read, or-false s.write, or-true s.execute) refl

module _ (h : Holdings) (p : Place) (a : Access) where
  pub may_from : can_touch h p a ≡ true → MayAccess h p a
  may_from can = by (at h p) refl can
    where
      by : (m : Option Held) → at h p ≡ m → option_map_or (λ m. has m.rights a) m false ≡ true → MayAccess h p a
      by None is can = absurd (cc can)
      by (Some m) is can = record { held = m; is = is; allows = has_allows m.rights a can }

  may_can : MayAccess h p a → can_touch h p a ≡ true
  may_can may = rw (may.is) (allows_has may.held.rights a may.allows)

  cannot : (MayAccess h p a → ⊥) → can_touch h p a ≡ false
  cannot none = false_from_ne_true _ (λ can. none (may_from can))

  -- the change that an access makes
  abbrev marking : Place → Held → Option Held
  marking q m = Some (if same_place p q then marked a m else m)

  module _ (l : IsLawful h) where
    at_marked : (q : Place) → at (each marking h) q ≡ changed marking q (at h q)
    at_marked q = at_each marking h q l.sorted

    marked_here : (m : Held) → at h p ≡ Some m → at (each marking h) p ≡ Some (marked a m)
    marked_here m held = at_marked p ∙ ap (changed marking p) held ∙ ap (λ b. Some (if b then marked a m else m)) (same_self p)

    marked_other : (q : Place) → (q ≡ p → ⊥) → at (each marking h) q ≡ at h q
    marked_other q differ = at_marked q ∙ by (at h q)
      where
        by : (m : Option Held) → changed marking q m ≡ m
        by None = refl
        by (Some m) = ap (λ b. Some (if b then marked a m else m)) (apart_places p q (λ same. differ (sym same)))

    touched : can_touch h p a ≡ true → touch h p a ≡ each marking h
    touched can = rw can refl

    other_page : (q : Place) → (q ≡ p → ⊥) → (b : Bool) → at (if b then each marking h else h) q ≡ at h q
    other_page q differ true = marked_other q differ
    other_page q differ false = refl

    is_accessed : (limits : Limits) → IsAccessed h p a (record { reply = accessed (can_touch h p a); left = touch h p a })
    is_accessed limits = record {
      ok = (λ is. may_from (cc is), λ may. ap accessed (may_can may));
      fault = (λ is may. cc (may_can may, is), λ none. ap accessed (cannot none));
      page = λ m held allows.
          let can = may_can (record { held = m; is = held; allows = allows }) in
          record {
            held = marked a m;
            is = ap (λ x. at x p) (touched can) ∙ marked_here m held;
            frame = refl;
            rights = refl;
            origin = refl;
            marks = join_marks a m.status;
          };
      others = λ q differ. other_page q differ (can_touch h p a);
      unchanged = λ none. ap (λ b. if b then each marking h else h) (cannot none);
    }

pub access_says : AccessSays
access_says limits h lawful p a = is_accessed h p a (lawful_parts h lawful) limits
