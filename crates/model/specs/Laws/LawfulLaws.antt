-- Holdings stay lawful, whatever is done.
use Rattle.std.specs.Prelude.{◌≡◌, ℕ, Bool, List, IsTrue, Decides, Some, None}
use Rattle.std.specs.FinMap.Entries.{is_sorted}
use Rattle.fpage.specs.Rights.{has}
use Rattle.fpage.specs.Fpage.{Flexpage}
use Rattle.fpage.specs.declared.rights.Rights.{Rights}
use Rattle.fpage.specs.declared.rights.Access.{Access}
use Rattle.fpage.specs.declared.item.Item.{Item}
use Rattle.space.specs.declared.place.Place.{Place}
use Rattle.space.specs.Place.{place_cmp}
use Rattle.model.specs.Definitions.Holdings.{Held, Holdings, PlaceSet, only, at, is_held}
use Rattle.model.specs.Definitions.Lawful.{is_lawful}
use Rattle.model.specs.Definitions.Touch.{touch}
use Rattle.model.specs.Definitions.Strip.{strip}
use Rattle.model.specs.Definitions.Items.{job_of}
use Rattle.model.specs.Definitions.Map.{mapped}
use Rattle.model.specs.Definitions.Grant.{granted}
use Rattle.model.specs.Definitions.Calls.{Limits, Request}
use Rattle.model.specs.Definitions.Answers.{answer}
use Rattle.model.specs.Definitions.Replay.{start, replay}
use Rattle.model.specs.Laws.DerivationLaws.{after_origins, LeadsInto}

-- a mapping has the frame of another, and no right that the other has not
pub record HoldsNoMore (m from : Held) : Type 0 where
  pub frame : m.frame ≡ from.frame
  pub rights : (r : Access) → IsTrue (has m.rights r) → IsTrue (has from.rights r)

-- an origin of a mapping
pub record IsHeldOrigin (h : Holdings) (o : Place) (m : Held) : Type 0 where
  pub from : Held
  pub is : at h o ≡ Some from
  pub no_more : HoldsNoMore m from

-- a chain of origins that ends
pub record Ends (h : Holdings) (p : Place) : Type 0 where
  pub origins : ℕ
  pub none : after_origins origins h p ≡ None

-- some right of a set
pub record HasSome (rights : Rights) : Type 0 where
  pub right : Access
  pub is : IsTrue (has rights right)

-- what lawful says of holdings
pub record AreLawful (h : Holdings) : Type 0 where
  -- each place stands once, by rising place
  pub sorted : IsTrue (is_sorted place_cmp h)
  -- no mapping is without rights
  pub some : (p : Place) (m : Held) → at h p ≡ Some m → HasSome m.rights
  -- each origin is held, with the same frame and at least the rights
  pub origin : (p o : Place) (m : Held) → at h p ≡ Some m → m.origin ≡ Some o → IsHeldOrigin h o m
  -- each chain of origins ends
  pub ends : (p : Place) → IsTrue (is_held h p) → Ends h p
  -- a frame has one root at most
  pub root : (p q : Place) (m k : Held) → at h p ≡ Some m → at h q ≡ Some k → m.origin ≡ None → k.origin ≡ None → k.frame ≡ m.frame → q ≡ p

-- the test is true of these holdings, and of no others
abbrev pub LawfulMeans : Type 0
LawfulMeans = (h : Holdings) → Decides (is_lawful h) (AreLawful h)

-- a page has the frame of each page from which it derives, and no right that the other has not: so what is taken from
-- a page can be taken from all that derives from it
abbrev pub DerivedHoldsNoMore : Type 0
DerivedHoldsNoMore =
    (h : Holdings) → IsTrue (is_lawful h) → (p q : Place) (m from : Held) → LeadsInto h 0 (only q) p → at h p ≡ Some m → at h q ≡ Some from → HoldsNoMore m from

-- an access
abbrev pub TouchKeepsLawful : Type 0
TouchKeepsLawful = (h : Holdings) → IsTrue (is_lawful h) → (p : Place) (a : Access) → IsTrue (is_lawful (touch h p a))

-- a strip of any set
abbrev pub StripKeepsLawful : Type 0
StripKeepsLawful = (h : Holdings) → IsTrue (is_lawful h) → (set : PlaceSet) (a : Rights) (f : Bool) → IsTrue (is_lawful (strip h set a f))

-- an item between two spaces
abbrev pub MapKeepsLawful : Type 0
MapKeepsLawful =
    (h : Holdings) → IsTrue (is_lawful h) → (from to : ℕ) → (from ≡ to → ⊥) → (window : Flexpage) (item : Item) → IsTrue (is_lawful (mapped h (job_of from to window item)))

-- the same by a grant
abbrev pub GrantKeepsLawful : Type 0
GrantKeepsLawful =
    (h : Holdings) → IsTrue (is_lawful h) → (from to : ℕ) → (from ≡ to → ⊥) → (window : Flexpage) (item : Item) → IsTrue (is_lawful (granted h (job_of from to window item)))

-- a request, whether it is refused or not
abbrev pub RequestKeepsLawful : Type 0
RequestKeepsLawful = (limits : Limits) (h : Holdings) → IsTrue (is_lawful h) → (request : Request) → IsTrue (is_lawful (answer limits h request).left)

-- at the start
abbrev pub StartIsLawful : Type 0
StartIsLawful = (limits : Limits) → IsTrue (is_lawful (start limits))

-- hence after any requests
abbrev pub ReplayIsLawful : Type 0
ReplayIsLawful = (limits : Limits) (requests : List Request) → IsTrue (is_lawful (replay (answer limits) (start limits) requests).last)
