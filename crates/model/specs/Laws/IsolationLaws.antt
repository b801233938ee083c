-- What strip does to each page: what the author of a kernel depends on.
use Rattle.std.specs.Prelude.{◌≡◌, Bool, ◌⊎◌, ◌↔◌, IsTrue, IsFalse, Some, None}
use Rattle.fpage.specs.Rights.{has}
use Rattle.fpage.specs.declared.rights.Rights.{Rights}
use Rattle.fpage.specs.declared.rights.Access.{Access}
use Rattle.space.specs.declared.place.Place.{Place}
use Rattle.model.specs.Definitions.Holdings.{Held, Holdings, PlaceSet, only, at}
use Rattle.model.specs.Definitions.Lawful.{is_lawful}
use Rattle.model.specs.Laws.DerivationLaws.{LeadsInto}
use Rattle.model.specs.Definitions.Strip.{strip}

-- a page loses where it derives from a page of the set, and, with f set, where it is of the set
abbrev pub Loses : Holdings → PlaceSet → Bool → Place → Type 0
Loses h set f p = LeadsInto h 1 set p ⊎ (IsTrue f × IsTrue (set p))

-- the same page, before and after: its frame and its origin stay, and it gains no right
pub record IsKept (before after : Held) : Type 0 where
  pub frame : after.frame ≡ before.frame
  pub origin : after.origin ≡ before.origin
  pub no_gain : (r : Access) → IsTrue (has after.rights r) → IsTrue (has before.rights r)

-- what was held at a place, if the same page is still there
pub record Before (h : Holdings) (p : Place) (after : Held) : Type 0 where
  pub held : Held
  pub is : at h p ≡ Some held
  pub kept : IsKept held after

-- what is held at a place with these rights
pub record HoldsRights (h : Holdings) (p : Place) (rights : Rights) : Type 0 where
  pub held : Held
  pub is : at h p ≡ Some held
  pub same : held.rights ≡ rights

-- what is left of holdings when a set of pages is stripped of rights
pub record Isolates (h left : Holdings) (set : PlaceSet) (a : Rights) (f : Bool) : Type 0 where
  -- no page that loses holds any of the rights
  pub revoked : (p : Place) (m : Held) → Loses h set f p → at left p ≡ Some m → (r : Access) → IsTrue (has a r) → IsFalse (has m.rights r)
  -- it loses no other right
  pub others : (p : Place) (m k : Held) → at h p ≡ Some m → at left p ≡ Some k → (r : Access) → IsFalse (has a r) → has k.rights r ≡ has m.rights r
  -- a page that does not lose keeps its rights
  pub outside : (p : Place) (m : Held) → at h p ≡ Some m → (Loses h set f p → ⊥) → HoldsRights left p m.rights
  -- each page that is left was there before, with its frame and origin, and gained no right
  pub kept : (p : Place) (m : Held) → at left p ≡ Some m → Before h p m
  -- a page is gone exactly where it loses all the rights that it had
  pub gone : (p : Place) (m : Held) → at h p ≡ Some m → (at left p ≡ None) ↔ (Loses h set f p × ((r : Access) → IsTrue (has m.rights r) → IsTrue (has a r)))

-- isolation: whatever holdings are lawful, whatever is stripped of them
abbrev pub StripIsolates : Type 0
StripIsolates = (h : Holdings) → IsTrue (is_lawful h) → (set : PlaceSet) (a : Rights) (f : Bool) → Isolates h (strip h set a f) set a f

-- with a page goes all that derives from it
abbrev pub DerivedGoesToo : Type 0
DerivedGoesToo =
    (h : Holdings) → IsTrue (is_lawful h) → (set : PlaceSet) (a : Rights) (f : Bool) (q : Place)
    → at (strip h set a f) q ≡ None → (p : Place) → LeadsInto h 0 (only q) p → at (strip h set a f) p ≡ None
