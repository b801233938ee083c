-- What is planned before the words of a phase are worked.
use Rattle.std.specs.List.{All, flat_map, list_all, slice_range}
use Rattle.std.specs.Prelude.{◌≡◌, ℕ, ◌<◌, ◌≤◌, Bool, true, false, not, ◌&&◌, List, [], ◌∷◌, ◌++◌, length, map, Option, Some, option_map, if◌then◌else◌}
use Rattle.std.specs.declared.ops.Range.{Range}
use Rattle.fpage.specs.declared.rights.Rights.{Rights}
use Rattle.space.specs.declared.place.Place.{Place}
use Rattle.space.specs.declared.shards.Shards.{Shards}
use Rattle.space.specs.Place.{same_place}
use Rattle.space.specs.Shards.{index_of}
use Rattle.space.specs.declared.node.Node.{Node}
use Rattle.maptree.specs.Origins.{Shape, IsRun, place_at}
use Rattle.model.specs.Definitions.Derived.{is_below}
use Rattle.model.specs.Definitions.Holdings.{PlaceSet, is_held}
use Rattle.pieces.specs.Contents.{StripContent}
use Rattle.maptree.specs.Origins.{IsOriginAt}
use Rattle.holdings.specs.Inner.Held.{links_in, holdings_in, has_entry}
use Rattle.holdings.specs.declared.transfer.Transfer.{Transfer}
use Rattle.fpage.specs.declared.rights.Access.{Access}
use Rattle.pieces.specs.declared.touch.WordAccess.{WordAccess}
use Rattle.pieces.specs.declared.link.Store.{Store}
use Rattle.pieces.specs.declared.moving.Pair.{Pair}
use Rattle.holdings.specs.Places.{any_of}
use Rattle.holdings.specs.Sending.{fate_in}
use Rattle.model.specs.Definitions.Items.{Counts, no_counts, add_counts, counts_of}
use Rattle.pieces.specs.Masks.{masks_of}

-- the strip of a part of a run, whose first node may be spared; its status goes to the origin of the run
abbrev pub strip_of : Shards → Bool → Rights → Option Place → List Node → StripContent
strip_of s spared revoked origin nodes = record {
  nodes = nodes;
  masks = masks_of spared revoked (length nodes);
  indexes = map (λ n. index_of s n.place) nodes;
  fold = option_map (index_of s) origin;
}

-- the strips of the parts of a run: the first part begins with the first page of the run, which is spared where there is no flush
abbrev pub strips_of_run : Shards → Rights → Bool → Option Place → List (List Node) → List StripContent
strips_of_run s revoked flush origin [] = []
strips_of_run s revoked flush origin (part ∷ parts) = strip_of s (not flush) revoked origin part ∷ map (strip_of s false revoked origin) parts

-- a run of a frame's tree that is to be stripped: the origin of its first page, and its nodes in parts
pub record RunPlan : Type 0 where
  pub frame : ℕ
  pub run : Range ℕ
  pub origin : Option Place
  pub parts : List (List Node)

-- the places of parts, one part after another
abbrev pub all_places : List (List Node) → List Place
all_places parts = flat_map (λ part. map (λ n. n.place) part) parts

-- the nodes are those of the run, the first part has some, and the origin is that of its first page
pub record IsRunPlan (trees : List Shape) (plan : RunPlan) : Type 0 where
  pub is_run : IsRun (links_in trees plan.frame) plan.run
  pub some : plan.run.start < plan.run.end
  pub within : plan.run.end ≤ length (links_in trees plan.frame)
  pub origin : IsOriginAt (links_in trees plan.frame) plan.run.start plan.origin
  pub places : all_places plan.parts ≡ slice_range (map (λ o. o.0) (links_in trees plan.frame)) plan.run.start plan.run.end
  pub first : Node
  pub first_part : List Node
  pub others : List (List Node)
  pub parts : plan.parts ≡ (first ∷ first_part) ∷ others

-- the strips of some runs, one run after another
abbrev pub strips_of_runs : Shards → Rights → Bool → List RunPlan → List StripContent
strips_of_runs s revoked flush [] = []
strips_of_runs s revoked flush (plan ∷ plans) = strips_of_run s revoked flush plan.origin plan.parts ++ strips_of_runs s revoked flush plans

-- the first page of a run
abbrev pub first_of : List Shape → RunPlan → Place
first_of trees plan = place_at (links_in trees plan.frame) plan.run.start (record { space = 0; page = 0 })

-- the places of all runs
abbrev pub places_of_runs : List RunPlan → List Place
places_of_runs plans = flat_map (λ plan. all_places plan.parts) plans

-- whether no place comes twice
abbrev pub come_once : List Place → Bool
come_once [] = true
come_once (p ∷ ps) = list_all (λ q. not (same_place p q)) ps && come_once ps

-- the strip of a set of pages, planned: the runs of some of its pages, from which all of it that is held derives
pub record IsStripPlan (s : Shards) (trees : List Shape) (set : PlaceSet) (plans : List RunPlan) : Type 0 where
  pub runs : All (IsRunPlan trees) plans
  -- the first page of each run is one of the set
  pub named : All (λ plan. set (first_of trees plan) ≡ true) plans
  -- each held page of the set derives from a first page, or is one
  pub covers : (p : Place) → is_held (holdings_in s trees) p ≡ true → set p ≡ true → is_below (holdings_in s trees) (any_of (map (first_of trees) plans)) p ≡ true
  -- no page is in two runs, and the origin of a run is in none
  pub once : come_once (places_of_runs plans) ≡ true
  pub outer : All (λ plan. (o : Place) → plan.origin ≡ Some o → any_of (places_of_runs plans) o ≡ false) plans

-- ---- accesses

-- an access by its word
abbrev pub word_access : Shards → Place × Access → WordAccess
word_access s t = record { index = index_of s t.0; access = t.1 }

-- ---- links and moves

-- the store of a page that is mapped with these rights at most
abbrev pub store_of : Shards → Rights → Transfer → Store
store_of s rights t = record { read = index_of s t.source; put = index_of s t.target; rights = rights }

-- the stores of those pages of an item whose source is held
abbrev pub stores_of : Shards → Rights → List Transfer → List Store
stores_of s rights [] = []
stores_of s rights (t ∷ ts) = if has_entry s t.source then store_of s rights t ∷ stores_of s rights ts else stores_of s rights ts

-- the page that is moved, by its words
abbrev pub word_pair : Shards → Transfer → Pair
word_pair s t = record { taken = index_of s t.source; put = index_of s t.target }

-- those of the pages whose source is held
abbrev pub word_pairs : Shards → List Transfer → List Pair
word_pairs s [] = []
word_pairs s (t ∷ ts) = if has_entry s t.source then word_pair s t ∷ word_pairs s ts else word_pairs s ts

-- what becomes of a page of an item: it is lost if its source is not held
abbrev pub count_in : Shards → Transfer → Counts
count_in s t = counts_of (fate_in t) (has_entry s t.source)

-- of some
abbrev pub counts_in : Shards → List Transfer → Counts
counts_in s [] = no_counts
counts_in s (t ∷ ts) = add_counts (count_in s t) (counts_in s ts)
