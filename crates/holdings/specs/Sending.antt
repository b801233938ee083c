-- The pages of an item: what becomes of each, and those that are mapped or moved.
use Rattle.std.specs.List.{All}
use Rattle.std.specs.Prelude.{◌≡◌, ℕ, ◌+◌, ◌^◌, ◌<◌, ◌≤◌, true, List, length, Some, None, false, [], ◌∷◌, if◌then◌else◌}
use Rattle.fpage.specs.Rights.{is_empty, meet}
use Rattle.fpage.specs.declared.rights.Rights.{Rights}
use Rattle.space.specs.Directory.{pages_of}
use Rattle.space.specs.Place.{same_place}
use Rattle.space.specs.declared.place.Place.{Place}
use Rattle.model.specs.Definitions.Calls.{Limits}
use Rattle.model.specs.Definitions.Holdings.{Held, Holdings, at, is_held}
use Rattle.model.specs.Definitions.Items.{counts_of, Counts, no_counts, Job, Pair, pairs_from, Fate, absent, norights, to_origin, extends, goes, add_counts}
use Rattle.model.specs.Definitions.Map.{map_pair}
use Rattle.holdings.specs.declared.item_pages.ItemPages.{ItemPages}
use Rattle.holdings.specs.declared.outcome.Outcome.{Outcome}
use Rattle.holdings.specs.declared.transfer.Transfer.{Transfer}
use Rattle.holdings.specs.declared.outcome.Outcome.TheVariants as outcome

-- the outcome as the definitions name it
abbrev pub fate_of_outcome : Outcome → Fate
fate_of_outcome outcome.Absent = absent
fate_of_outcome outcome.NoRights = norights
fate_of_outcome outcome.Origin = to_origin
fate_of_outcome outcome.Extends = extends
fate_of_outcome outcome.Replaces = goes
fate_of_outcome outcome.Goes = goes

-- the pages as an item of the definitions
abbrev pub job_of_pages : ItemPages → Job
job_of_pages p = record { kind = p.kind; rights = p.rights; pairs = pairs_from p.count p.source p.target }

-- its pages lie within the limits, and its spaces differ
pub record AreItemPages (limits : Limits) (p : ItemPages) : Type 0 where
  pub source_space : p.source.space < limits.spaces
  pub target_space : p.target.space < limits.spaces
  pub source_pages : p.source.page + p.count ≤ pages_of limits.bits
  pub target_pages : p.target.page + p.count ≤ pages_of limits.bits
  pub differ : p.source.space ≡ p.target.space → ⊥

-- the page so far behind a first page
abbrev pub page_on : Place → ℕ → Place
page_on p i = record p { page = p.page + i }

-- ---- transfers

-- the pair
abbrev pub pair_of : Transfer → Pair
pair_of t = (t.source, t.target)

-- its outcome
abbrev pub fate_in : Transfer → Fate
fate_in t = if t.extends then extends else goes

-- a pair's places
pub record IsTransferWithin (limits : Limits) (t : Transfer) : Type 0 where
  pub source_space : t.source.space < limits.spaces
  pub source_page : t.source.page < pages_of limits.bits
  pub target_space : t.target.space < limits.spaces
  pub target_page : t.target.page < pages_of limits.bits

-- one that goes beside others has another source and another target
abbrev pub IsApartFrom : Transfer → List Transfer → Type 0
IsApartFrom t ts = All (λ d. (same_place d.source t.source ≡ false) × (same_place d.target t.target ≡ false)) ts

-- from one space to another, and no two with one source or one target
abbrev pub ArePaired : ℕ → ℕ → List Transfer → Type 0
ArePaired from to [] = Unit {0}
ArePaired from to (t ∷ ts) = (t.source.space ≡ from) × (t.target.space ≡ to) × IsApartFrom t ts × ArePaired from to ts

-- besides, within the limits, and few enough to be counted
pub record ArePlanned (limits : Limits) (ts : List Transfer) : Type 0 where
  pub from : ℕ
  pub to : ℕ
  pub differ : from ≡ to → ⊥
  pub paired : ArePaired from to ts
  pub within : All (IsTransferWithin limits) ts
  pub few : length ts ≤ 2 ^ 32

-- none extends
abbrev pub AllGo : List Transfer → Type 0
AllGo ts = All (λ t. t.extends ≡ false) ts

-- ---- after the flush

-- of a held source some right is let through; the target of one that goes holds nothing; that of one that extends holds what
-- derives from the source, if the source is held
pub record IsReady (h : Holdings) (rights : Rights) (t : Transfer) : Type 0 where
  pub some : (m : Held) → at h t.source ≡ Some m → is_empty (meet m.rights rights) ≡ false
  pub free : t.extends ≡ false → at h t.target ≡ None
  pub derived : (m : Held) → t.extends ≡ true → at h t.source ≡ Some m → (k : Held) × (at h t.target ≡ Some k) × (k.origin ≡ Some t.source)

-- what becomes of one that goes or extends: it is lost if its source was flushed
abbrev pub count_after_flush : Holdings → Transfer → Counts
count_after_flush flushed t = counts_of (fate_in t) (is_held flushed t.source)

-- of some
abbrev pub counts_after_flush : Holdings → List Transfer → Counts
counts_after_flush flushed [] = no_counts
counts_after_flush flushed (t ∷ ts) = add_counts (count_after_flush flushed t) (counts_after_flush flushed ts)

-- each of some is ready
abbrev pub AreReady : Holdings → Rights → List Transfer → Type 0
AreReady h rights ts = All (IsReady h rights) ts

-- the target of each of some holds nothing
abbrev pub AreFree : Holdings → List Transfer → Type 0
AreFree h ts = All (λ t. at h t.target ≡ None) ts

-- the pages of a MapItem, one after another, as sources and targets stand after the flush
abbrev pub map_transfers : Holdings → Job → List Transfer → Holdings → Holdings
map_transfers flushed job [] h = h
map_transfers flushed job (t ∷ ts) h = map_transfers flushed job ts (map_pair flushed job (pair_of t) (fate_in t) h)

-- the pairs of those whose source is held
abbrev pub moving_of : Holdings → List Transfer → List Pair
moving_of flushed [] = []
moving_of flushed (t ∷ ts) = if is_held flushed t.source then pair_of t ∷ moving_of flushed ts else moving_of flushed ts
