-- What becomes of each page when an item of a send is worked.
use Rattle.std.specs.Prelude.{◌≡◌, ℕ, true, ◌+◌, ◌==◌, ◌&&◌, not, ◌⊎◌, ◌↔◌, List, [], ◌∷◌, length, filter, IsTrue, IsFalse, Decides, Option, Some, None, Ok}
use Rattle.fpage.specs.Rights.{no_rights, all_rights, is_empty, meet, join, without, has}
use Rattle.fpage.specs.Fpage.{Flexpage, read_fpage}
use Rattle.fpage.specs.Item.{read_item, is_pair}
use Rattle.fpage.specs.declared.rights.Rights.{Rights}
use Rattle.fpage.specs.declared.rights.Access.{Access}
use Rattle.fpage.specs.declared.item.Item.{Item}
use Rattle.space.specs.declared.place.Place.{Place}
use Rattle.model.specs.Definitions.Holdings.{Held, Holdings, at, is_held}
use Rattle.model.specs.Definitions.Lawful.{is_lawful}
use Rattle.model.specs.Definitions.Strip.{strip}
use Rattle.model.specs.Definitions.Items.{Job, Pair, job_of, Fate, extends, goes, fate, going, sources_of, targets_of, flush, Counts, counts}
use Rattle.model.specs.Definitions.Map.{mapped}
use Rattle.model.specs.Definitions.Grant.{granted, moving}
use Rattle.model.specs.Laws.DerivationLaws.{LeadsInto}
use Rattle.model.specs.Laws.StatusLaws.{PassesBit}

-- a pair is one of a list
abbrev pub In : Pair → List Pair → Type 0
In e [] = ⊥
In e (d ∷ es) = (e ≡ d) ⊎ In e es

-- the pairs of an item are those of the manual's rule: pages in the same place of their blocks (`is_pair`)
abbrev pub PairsOfAnItem : Type 0
PairsOfAnItem =
    (bits first second third : ℕ) (item : Item) (window : Flexpage) → read_item bits first second ≡ Ok item → read_fpage bits third ≡ Ok window
    → (from to : ℕ) (e : Pair) → In e (job_of from to window item).pairs ↔ ((e.0.space ≡ from) × (e.1.space ≡ to) × IsTrue (is_pair item window e.0.page e.1.page))

-- a pair of an item that has an outcome
pub record HasFate (h : Holdings) (job : Job) (f : Fate) (e : Pair) : Type 0 where
  pub is : In e job.pairs
  pub fate : fate h job e ≡ f

-- a page is replaced where it is the target of a pair that goes, or derives from such a target
abbrev pub IsReplaced : Holdings → Job → Place → Type 0
IsReplaced h job p = LeadsInto h 0 (targets_of (going h job)) p

-- a pair that goes, and whose source is not replaced
pub record IsWorked (h : Holdings) (job : Job) (e : Pair) : Type 0 where
  pub goes : HasFate h job goes e
  pub stays : IsReplaced h job e.0 → ⊥

-- what is held at a place, but for its status
pub record HoldsLike (h : Holdings) (p : Place) (frame : ℕ) (rights : Rights) (origin : Option Place) : Type 0 where
  pub held : Held
  pub is : at h p ≡ Some held
  pub same_frame : held.frame ≡ frame
  pub same_rights : held.rights ≡ rights
  pub same_origin : held.origin ≡ origin

-- ---- map

-- what is left of holdings after a MapItem
pub record IsMapped (h : Holdings) (job : Job) (left : Holdings) : Type 0 where
  -- a linked target has the source's frame, those of the source's rights that the fpage lets through, no status, and
  -- the source as its origin
  pub linked : (e : Pair) (source : Held) → IsWorked h job e → at h e.0 ≡ Some source
      → at left e.1 ≡ Some (record { frame = source.frame; rights = meet source.rights job.rights; status = no_rights; origin = Some e.0 })
  -- an extended target gains such rights
  pub extended : (e : Pair) (source target : Held) → HasFate h job extends e → (IsReplaced h job e.0 → ⊥) → at h e.0 ≡ Some source → at h e.1 ≡ Some target
      → HoldsLike left e.1 target.frame (join target.rights (meet source.rights job.rights)) target.origin
  -- what derived from a replaced page is gone, and so is the target of a pair that goes and is lost
  pub replaced : (p : Place) → IsReplaced h job p → ((e : Pair) → IsWorked h job e → e.1 ≡ p → ⊥) → at left p ≡ None
  -- nothing else changes, but for status
  pub outside : (p : Place) (m : Held) → at h p ≡ Some m → (IsReplaced h job p → ⊥) → ((e : Pair) → HasFate h job extends e → e.1 ≡ p → ⊥)
      → HoldsLike left p m.frame m.rights m.origin
  -- and nothing else is new
  pub none_new : (p : Place) → at h p ≡ None → ((e : Pair) → IsWorked h job e → e.1 ≡ p → ⊥) → at left p ≡ None

-- of a MapItem between two spaces
abbrev pub MapSays : Type 0
MapSays =
    (h : Holdings) → IsTrue (is_lawful h) → (from to : ℕ) → (from ≡ to → ⊥) → (window : Flexpage) (item : Item)
    → IsMapped h (job_of from to window item) (mapped h (job_of from to window item))

-- ---- grant

-- where an origin is after a grant: at its target where it was granted, else where it was
pub record OriginFollows (h : Holdings) (job : Job) (before after : Option Place) : Type 0 where
  pub granted : (e : Pair) → IsWorked h job e → before ≡ Some e.0 → after ≡ Some e.1
  pub stays : ((e : Pair) → IsWorked h job e → before ≡ Some e.0 → ⊥) → after ≡ before

-- what is held at a place after a grant, but for its status
pub record HoldsAfterGrant (h : Holdings) (job : Job) (left : Holdings) (p : Place) (rights : Rights) (before : Held) : Type 0 where
  pub held : Held
  pub is : at left p ≡ Some held
  pub same_frame : held.frame ≡ before.frame
  pub same_rights : held.rights ≡ rights
  pub follows : OriginFollows h job before.origin held.origin

-- what is left of holdings after a GrantItem
pub record IsGranted (h : Holdings) (job : Job) (left : Holdings) : Type 0 where
  -- a granted page stands at its target, with its old frame and the rights that the fpage lets through
  pub granted : (e : Pair) (m : Held) → IsWorked h job e → at h e.0 ≡ Some m → HoldsAfterGrant h job left e.1 (meet m.rights job.rights) m
  -- and it has no status
  pub no_status : (e : Pair) (k : Held) → IsWorked h job e → at left e.1 ≡ Some k → k.status ≡ no_rights
  -- the sender holds it no longer, nor a page whose pair goes and is lost
  pub absent : (e : Pair) → HasFate h job goes e → at left e.0 ≡ None
  -- what derives from a granted page stays where it is; it loses the rights that the fpage withholds
  pub derived : (p : Place) (m : Held) → at h p ≡ Some m → (IsReplaced h job p → ⊥) → IsFalse (sources_of (going h job) p) → LeadsInto h 1 (sources_of (going h job)) p
      → IsFalse (is_empty (meet m.rights job.rights)) → HoldsAfterGrant h job left p (meet m.rights job.rights) m
  -- and is gone where it had no others
  pub revoked : (p : Place) (m : Held) → at h p ≡ Some m → (IsReplaced h job p → ⊥) → IsFalse (sources_of (going h job) p) → LeadsInto h 1 (sources_of (going h job)) p
      → IsTrue (is_empty (meet m.rights job.rights)) → at left p ≡ None
  -- a replaced page is gone
  pub replaced : (p : Place) → IsReplaced h job p → ((e : Pair) → IsWorked h job e → e.1 ≡ p → ⊥) → at left p ≡ None
  -- nothing else changes, but for status
  pub outside : (p : Place) (m : Held) → at h p ≡ Some m → (IsReplaced h job p → ⊥) → (LeadsInto h 0 (sources_of (going h job)) p → ⊥)
      → HoldsLike left p m.frame m.rights m.origin
  -- and nothing else is new
  pub none_new : (p : Place) → at h p ≡ None → ((e : Pair) → IsWorked h job e → e.1 ≡ p → ⊥) → at left p ≡ None

-- of a GrantItem between two spaces
abbrev pub GrantSays : Type 0
GrantSays =
    (h : Holdings) → IsTrue (is_lawful h) → (from to : ℕ) → (from ≡ to → ⊥) → (window : Flexpage) (item : Item)
    → IsGranted h (job_of from to window item) (granted h (job_of from to window item))

-- ---- status

-- the status of pages after a MapItem
pub record IsStatusAfterMap (h : Holdings) (job : Job) (left : Holdings) : Type 0 where
  -- a linked target has none
  pub linked : (e : Pair) (k : Held) → IsWorked h job e → at left e.1 ≡ Some k → k.status ≡ no_rights
  -- any other page, extended or not, keeps its status, and gains exactly that of the replaced pages that derive from it
  -- directly, with all that derives from those
  pub others : (p : Place) (m k : Held) → at h p ≡ Some m → (IsReplaced h job p → ⊥) → at left p ≡ Some k
      → (b : Access) → Decides (has k.status b) (IsTrue (has m.status b) ⊎ PassesBit h (targets_of (going h job)) p b)

-- of a MapItem between two spaces
abbrev pub MapPassesStatus : Type 0
MapPassesStatus =
    (h : Holdings) → IsTrue (is_lawful h) → (from to : ℕ) → (from ≡ to → ⊥) → (window : Flexpage) (item : Item)
    → IsStatusAfterMap h (job_of from to window item) (mapped h (job_of from to window item))

-- the status of pages after a GrantItem
pub record IsStatusAfterGrant (h : Holdings) (job : Job) (left : Holdings) : Type 0 where
  -- a granted page has none at its target
  pub granted : (e : Pair) (k : Held) → IsWorked h job e → at left e.1 ≡ Some k → k.status ≡ no_rights
  -- nor has a page that derives from a granted one
  pub derived : (p : Place) (m k : Held) → at h p ≡ Some m → (IsReplaced h job p → ⊥) → LeadsInto h 1 (sources_of (going h job)) p → at left p ≡ Some k → k.status ≡ no_rights
  -- any other page keeps its status, and gains exactly that of the replaced pages and of the granted ones that derive
  -- from it directly, with all that derives from those
  pub others : (p : Place) (m k : Held) → at h p ≡ Some m → (IsReplaced h job p → ⊥) → (LeadsInto h 0 (sources_of (going h job)) p → ⊥) → at left p ≡ Some k
      → (b : Access) → Decides (has k.status b) (IsTrue (has m.status b) ⊎ PassesBit h (targets_of (going h job)) p b ⊎ PassesBit h (sources_of (going h job)) p b)

-- of a GrantItem between two spaces
abbrev pub GrantPassesStatus : Type 0
GrantPassesStatus =
    (h : Holdings) → IsTrue (is_lawful h) → (from to : ℕ) → (from ≡ to → ⊥) → (window : Flexpage) (item : Item)
    → IsStatusAfterGrant h (job_of from to window item) (granted h (job_of from to window item))

-- ---- numbers

-- how many mappings a frame has
abbrev pub mappings_of : ℕ → Holdings → ℕ
mappings_of frame h = length (filter (λ e. e.1.frame == frame) h)

-- what a grant leaves before pages move: after the flush and the strip of the sources
abbrev pub before_the_move : Holdings → Job → Holdings
before_the_move h job =
    let flushed = flush h (going h job) in
    strip flushed (sources_of (moving flushed (going h job))) (without all_rights job.rights) true

-- how many mappings of a frame, of those that were held, are held no longer
abbrev pub lost_of : ℕ → Holdings → Holdings → ℕ
lost_of frame h left = length (filter (λ e. (e.1.frame == frame) && not (is_held left e.0)) h)

-- of each frame as many mappings are held after a grant as before it, less those that were flushed or stripped away
abbrev pub GrantMovesAll : Type 0
GrantMovesAll =
    (h : Holdings) → IsTrue (is_lawful h) → (from to : ℕ) → (from ≡ to → ⊥) → (window : Flexpage) (item : Item) (frame : ℕ)
    → let job = job_of from to window item in
    mappings_of frame (granted h job) + lost_of frame h (before_the_move h job) ≡ mappings_of frame h

-- the pairs of an item, by outcome
abbrev pub total : Counts → ℕ
total c = c.absent + c.norights + c.origin + c.lost + c.extended + c.linked

-- each pair of an item counts once
abbrev pub CountsAddUp : Type 0
CountsAddUp = (h : Holdings) (job : Job) → total (counts h job) ≡ length job.pairs
