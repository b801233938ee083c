-- What an access does: which right it needs, which marks it leaves, and where.
use Rattle.std.specs.Prelude.{◌≡◌, true, false, ◌↔◌, IsTrue, Some, Ok}
use Rattle.fpage.specs.declared.rights.Rights.{Rights}
use Rattle.fpage.specs.declared.rights.Access.{Access}
use Rattle.fpage.specs.declared.rights.Access.TheVariants.{Read, Write, Execute}
use Rattle.space.specs.declared.place.Place.{Place}
use Rattle.model.specs.Definitions.Holdings.{Held, Holdings, at}
use Rattle.model.specs.Definitions.Lawful.{is_lawful}
use Rattle.model.specs.Definitions.Calls.{Limits, access, accessed}
use Rattle.model.specs.Definitions.Answers.{Answer, answer}

-- the right that an access needs: a read needs r, a write w, an execute x, and none needs another
abbrev pub Allows : Rights → Access → Type 0
Allows rights Read = IsTrue rights.read
Allows rights Write = IsTrue rights.write
Allows rights Execute = IsTrue rights.execute

-- the marks that an access leaves: a read sets R, a write R and W, an execute R and X, and what was set stays
abbrev pub LeavesMarks : Access → Rights → Rights → Type 0
LeavesMarks Read before after = after ≡ record before { read = true }
LeavesMarks Write before after = after ≡ record before { read = true; write = true }
LeavesMarks Execute before after = after ≡ record before { read = true; execute = true }

-- the page is held with the right that the access needs
pub record MayAccess (h : Holdings) (p : Place) (a : Access) : Type 0 where
  pub held : Held
  pub is : at h p ≡ Some held
  pub allows : Allows held.rights a

-- what is held at the page after an access: what was held there, with the marks in its status
pub record HoldsMarked (left : Holdings) (p : Place) (a : Access) (before : Held) : Type 0 where
  pub held : Held
  pub is : at left p ≡ Some held
  pub frame : held.frame ≡ before.frame
  pub rights : held.rights ≡ before.rights
  pub origin : held.origin ≡ before.origin
  pub marks : LeavesMarks a before.status held.status

-- what an access of a page is answered, and what it leaves
pub record IsAccessed (h : Holdings) (p : Place) (a : Access) (given : Answer) : Type 0 where
  -- it is ok exactly where the page is held with the right that the access needs
  pub ok : (given.reply ≡ accessed true) ↔ MayAccess h p a
  -- else it is a fault
  pub fault : (given.reply ≡ accessed false) ↔ (MayAccess h p a → ⊥)
  -- an access that is ok leaves its marks on the page, and nothing else of the page changes
  pub page : (m : Held) → at h p ≡ Some m → Allows m.rights a → HoldsMarked given.left p a m
  -- no other page changes, comes or goes
  pub others : (q : Place) → (q ≡ p → ⊥) → at given.left q ≡ at h q
  -- a fault changes nothing
  pub unchanged : (MayAccess h p a → ⊥) → given.left ≡ h

-- of any page and any access
abbrev pub AccessSays : Type 0
AccessSays = (limits : Limits) (h : Holdings) → IsTrue (is_lawful h) → (p : Place) (a : Access) → IsAccessed h p a (answer limits h (Ok (access p a)))
