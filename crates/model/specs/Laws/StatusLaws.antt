-- Status is lost nowhere: where it goes when pages are stripped.
use Rattle.std.specs.Prelude.{◌≡◌, Bool, List, [], ◌∷◌, ◌⊎◌, IsTrue, Decides, Some}
use Rattle.fpage.specs.Rights.{no_rights, has}
use Rattle.fpage.specs.declared.rights.Rights.{Rights}
use Rattle.fpage.specs.declared.rights.Access.{Access}
use Rattle.space.specs.declared.place.Place.{Place}
use Rattle.model.specs.Definitions.Holdings.{Held, Holdings, PlaceSet, only, at}
use Rattle.model.specs.Definitions.Lawful.{is_lawful}
use Rattle.model.specs.Definitions.Strip.{strip, strip_word}
use Rattle.model.specs.Laws.DerivationLaws.{LeadsInto}

-- a status bit of a page that is of the set or derives from it
pub record HasBit (h : Holdings) (set : PlaceSet) (b : Access) : Type 0 where
  pub place : Place
  pub held : Held
  pub is : at h place ≡ Some held
  pub leads : LeadsInto h 0 set place
  pub bit : IsTrue (has held.status b)

-- the word of strip is the union of the status of all pages of the set and all that derives from them
abbrev pub WordIsTheUnion : Type 0
WordIsTheUnion = (h : Holdings) → IsTrue (is_lawful h) → (set : PlaceSet) (b : Access) → Decides (has (strip_word h set) b) (HasBit h set b)

-- that status is empty afterwards
abbrev pub StatusIsCleared : Type 0
StatusIsCleared =
    (h : Holdings) → IsTrue (is_lawful h) → (set : PlaceSet) (a : Rights) (f : Bool) (p : Place) (m : Held)
    → LeadsInto h 0 set p → at (strip h set a f) p ≡ Some m → m.status ≡ no_rights

-- a page derives directly from the place, and it or what derives from it has the bit; the page is of the set, or
-- derives from it
pub record PassesBit (h : Holdings) (set : PlaceSet) (o : Place) (b : Access) : Type 0 where
  pub child : Place
  pub held : Held
  pub is : at h child ≡ Some held
  pub origin : held.origin ≡ Some o
  pub leads : LeadsInto h 0 set child
  pub bit : HasBit h (only child) b

-- a page outside keeps its status, and gains exactly that of the pages of the set that derive from it directly, with
-- all that derives from those
abbrev pub OutsideGains : Type 0
OutsideGains =
    (h : Holdings) → IsTrue (is_lawful h) → (set : PlaceSet) (a : Rights) (f : Bool) (p : Place) (m k : Held)
    → (LeadsInto h 0 set p → ⊥) → at h p ≡ Some m → at (strip h set a f) p ≡ Some k
    → (b : Access) → Decides (has k.status b) (IsTrue (has m.status b) ⊎ PassesBit h set p b)

-- one strip of a sequence: which pages, which rights, and f
pub record Removal : Type 0 where
  pub set : PlaceSet
  pub rights : Rights
  pub flush : Bool

-- what one leaves
abbrev pub after_removal : Holdings → Removal → Holdings
after_removal h r = strip h r.set r.rights r.flush

-- what a sequence leaves
abbrev pub after_removals : Holdings → List Removal → Holdings
after_removals h [] = h
after_removals h (r ∷ rs) = after_removals (after_removal h r) rs

-- one of the sequence named a page from which the place derives, or the place, and its word had the bit
abbrev pub IsAnswered : Holdings → List Removal → Place → Access → Type 0
IsAnswered h [] p b = ⊥
IsAnswered h (r ∷ rs) p b = (LeadsInto h 0 r.set p × IsTrue (has (strip_word h r.set) b)) ⊎ IsAnswered (after_removal h r) rs p b

-- whatever is stripped in whatever order, a status bit that is set at a page is not lost to any place from which the
-- page derives (or to the page itself): either a strip since then named that place, or a page from which it derives,
-- and returned the bit, or a strip of that place would return it now
abbrev pub NoBitIsLost : Type 0
NoBitIsLost =
    (h : Holdings) → IsTrue (is_lawful h) → (rs : List Removal) (p : Place) (m : Held) (b : Access) → at h p ≡ Some m → IsTrue (has m.status b)
    → (q : Place) → LeadsInto h 0 (only q) p → IsAnswered h rs q b ⊎ IsTrue (has (strip_word (after_removals h rs) (only q)) b)
