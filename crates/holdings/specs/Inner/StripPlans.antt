-- The runs of a strip, frame by frame, as they are planned, and the trees that lose the places that are held no more.
use Rattle.std.specs.Prelude.{◌≡◌, ℕ, ◌+◌, ◌-◌, ◌<◌, ◌≤◌, ◌==◌, ⊤, Bool, true, false, List, [], ◌∷◌, ◌++◌, length, map, drop, get_or, slice_index, Option, Some}
use Rattle.std.specs.List.{All, flat_map, list_any, list_all, slice_range}
use Rattle.std.specs.List.Sorted.{IsNonDecreasingBy}
use Rattle.std.specs.declared.ops.Range.{Range}
use Rattle.fpage.specs.declared.rights.Rights.{Rights}
use Rattle.space.specs.declared.place.Place.{Place}
use Rattle.space.specs.declared.shards.Shards.{Shards}
use Rattle.space.specs.Shards.{IsPlace}
use Rattle.holdings.specs.Inner.Words.{IsThere}
use Rattle.maptree.specs.Origins.{Origins, Shape, AreOuterRuns, AreRising, IsRun, are_once}
use Rattle.maptree.specs.Cuts.{outside, kept_of}
use Rattle.space.specs.declared.node.Node.{Node}
use Rattle.model.specs.Definitions.Derived.{is_below}
use Rattle.model.specs.Definitions.Holdings.{PlaceSet, is_held}
use Rattle.pieces.specs.Phases.{IsPiece}
use Rattle.pieces.specs.declared.piece.Piece.{Piece}
use Rattle.pieces.specs.declared.piece.Piece.TheVariants as piece
use Rattle.holdings.specs.declared.pages.HeldPage.{HeldPage}
use Rattle.pieces.specs.declared.runs.FrameRuns.{FrameRuns}
use Rattle.pieces.specs.declared.runs.StripPlan.{StripPlan}
use Rattle.holdings.specs.Contents.{Contents, IsStripped}
use Rattle.holdings.specs.Inner.Held.{links_in, has_entry, holdings_in}
use Rattle.holdings.specs.Inner.Sound.{AreSound}
use Rattle.holdings.specs.Places.{any_of}
use Rattle.holdings.specs.Inner.Planning.{RunPlan, IsRunPlan, IsStripPlan, strips_of_run, strips_of_runs, all_places, come_once}
use Rattle.holdings.specs.Inner.Stripping.{firsts, places_in, OriginsHaveEntries, pruned}

-- pages in front of others are those of a frame, whose outermost runs are these
pub record IsFrameGroup (trees : List Shape) (group rest : List HeldPage) (f : FrameRuns) : Type 0 where
  pub some : 0 < length group
  pub frame : f.frame < length trees
  pub same : All (λ h. h.frame ≡ f.frame) group
  pub others : All (λ h. h.frame ≡ f.frame → ⊥) rest
  pub runs : AreOuterRuns (links_in trees f.frame) (places_in group) f.runs

-- pages in groups of one frame, each with its runs
abbrev pub AreFrameRuns : List Shape → List HeldPage → List FrameRuns → Type 0
AreFrameRuns trees pages [] = pages ≡ []
AreFrameRuns trees pages (f ∷ fs) = (group : List HeldPage) × (rest : List HeldPage) × (pages ≡ group ++ rest) × IsFrameGroup trees group rest f × AreFrameRuns trees rest fs

-- each range is the run of a node of the frame's tree, and they rise
pub record HaveRuns (trees : List Shape) (f : FrameRuns) : Type 0 where
  pub frame : f.frame < length trees
  pub rising : AreRising 0 f.runs (length (links_in trees f.frame))
  pub whole : All (IsRun (links_in trees f.frame)) f.runs

-- of the pages from one on up to another the groups with their runs, put in front of those of the pages to come
pub record AreRunsBetween (trees : List Shape) (pages : List HeldPage) (from to : ℕ) (fs : List FrameRuns) : Type 0 where
  pub each : All (HaveRuns trees) fs
  pub whole : (rest : List FrameRuns) → AreFrameRuns trees (drop to pages) rest → AreFrameRuns trees (drop from pages) (fs ++ rest)

-- no frame has a page in front of this one, and one behind
abbrev pub IsCut : List HeldPage → ℕ → Type 0
IsCut pages at = (d : HeldPage) → 0 < at → at < length pages → (get_or pages (at - 1) d).frame ≡ (get_or pages at d).frame → ⊥

-- where batches of pages begin, from the first page on, and the end of the last
pub record AreCuts (pages : List HeldPage) (cuts : List ℕ) (end : ℕ) : Type 0 where
  pub some : 0 < length cuts
  pub first : slice_index cuts 0 ≡ 0
  pub last : slice_index cuts (length cuts - 1) ≡ end
  pub rising : (k : ℕ) → k + 1 < length cuts → slice_index cuts k ≤ slice_index cuts (k + 1)
  pub within : (k : ℕ) → k < length cuts → slice_index cuts k ≤ length pages
  pub cut : (k : ℕ) → k < length cuts → IsCut pages (slice_index cuts k)

-- the runs of a frame, planned
pub record AreRunPlans (trees : List Shape) (frame : ℕ) (runs : List (Range ℕ)) (plans : List RunPlan) : Type 0 where
  pub each : All (IsRunPlan trees) plans
  pub frames : All (λ plan. plan.frame ≡ frame) plans
  pub runs_are : map (λ plan. plan.run) plans ≡ runs
  -- no place stands twice in the tree
  pub once : All (λ plan. are_once (links_in trees plan.frame) ≡ true) plans

-- the runs of frames, planned
abbrev pub AreFramePlans : List Shape → List FrameRuns → List RunPlan → Type 0
AreFramePlans trees [] plans = plans ≡ []
AreFramePlans trees (f ∷ fs) plans = (mine : List RunPlan) × (others : List RunPlan) × (plans ≡ mine ++ others) × AreRunPlans trees f.frame f.runs mine × AreFramePlans trees fs others

-- ---- the strips of runs

-- each of some pages has its own word, and the origin, which is none of them, has another
pub record HaveWords (s : Shards) (origin : Option Place) (ps : List Place) : Type 0 where
  pub places : All (IsThere s) ps
  pub once : come_once ps ≡ true
  pub origin_stands : (o : Place) → origin ≡ Some o → IsThere s o
  pub apart : (o : Place) → origin ≡ Some o → any_of ps o ≡ false

-- the pages of a tree from a position up to another
abbrev pub pages_of : Origins → ℕ → ℕ → List Place
pages_of os from to = slice_range (map (λ o. o.0) os) from to

-- the strips of the parts of a run were added to others: one part after another they are the run, and none is empty
pub record IsRunAdded (s : Shards) (revoked : Rights) (flush : Bool) (origin : Option Place) (ps : List Place) (old new : List Piece) : Type 0 where
  pub parts : List (List Node)
  pub each : All (λ part. 0 < length part) parts
  pub places : all_places parts ≡ ps
  pub items : new ≡ old ++ map piece.Strip (strips_of_run s revoked flush origin parts)

-- the strips of the runs of a frame were added to others
pub record AreAdded (s : Shards) (trees : List Shape) (revoked : Rights) (flush : Bool) (frame : ℕ) (runs : List (Range ℕ)) (old new : List Piece) : Type 0 where
  pub plans : List RunPlan
  pub planned : AreRunPlans trees frame runs plans
  pub items : new ≡ old ++ map piece.Strip (strips_of_runs s revoked flush plans)

-- the strips of the runs of these frames
pub record ArePlannedStrips (s : Shards) (trees : List Shape) (revoked : Rights) (flush : Bool) (fs : List FrameRuns) (pieces : List Piece) : Type 0 where
  pub plans : List RunPlan
  pub planned : AreFramePlans trees fs plans
  pub items : pieces ≡ map piece.Strip (strips_of_runs s revoked flush plans)

-- the runs of the pages from one on up to another, with their strips
pub record IsBatchPlanned (s : Shards) (trees : List Shape) (revoked : Rights) (flush : Bool) (pages : List HeldPage) (from to : ℕ) (fs : List FrameRuns) (pieces : List Piece) : Type 0 where
  pub runs : AreRunsBetween trees pages from to fs
  pub strips : ArePlannedStrips s trees revoked flush fs pieces

-- the runs of all these pages, with their strips
pub record ArePagesPlanned (s : Shards) (trees : List Shape) (revoked : Rights) (flush : Bool) (pages : List HeldPage) (plan : StripPlan) : Type 0 where
  pub runs : AreFrameRuns trees pages plan.frames.items
  pub strips : ArePlannedStrips s trees revoked flush plan.frames.items plan.pieces.items

-- pages that are held, sorted by frame, and their places, in batches
pub record CanBePlanned (s : Shards) (trees : List Shape) (pages : List HeldPage) (places : List Place) (cuts : List ℕ) (most : ℕ) : Type 0 where
  pub sound : AreSound s trees
  pub some : 1 ≤ most
  pub sorted : IsNonDecreasingBy (λ h. h.frame) pages
  pub frames : All (λ h. h.frame < length trees) pages
  pub places_are : places ≡ places_in pages
  pub cuts_are : AreCuts pages cuts (length pages)

-- the strip of a set of pages, planned, with its pieces
pub record IsPlanned (s : Shards) (trees : List Shape) (set : PlaceSet) (revoked : Rights) (flush : Bool) (plan : StripPlan) : Type 0 where
  pub pages : List HeldPage
  pub runs : AreFrameRuns trees pages plan.frames.items
  pub plans : List RunPlan
  pub planned : AreFramePlans trees plan.frames.items plans
  pub strip : IsStripPlan s trees set plans
  pub pieces_are : plan.pieces.items ≡ map piece.Strip (strips_of_runs s revoked flush plans)
  pub pieces : All IsPiece plan.pieces.items

-- ---- the first places of the runs

-- the first places of the runs of some frames
abbrev pub all_firsts : List Shape → List FrameRuns → List Place
all_firsts trees fs = flat_map (λ f. firsts (links_in trees f.frame) f.runs) fs

-- some of these places, and all that is held of the others derives from them
pub record AreOuterPlaces (s : Shards) (trees : List Shape) (places outer : List Place) : Type 0 where
  pub named : (q : Place) → any_of outer q ≡ true → any_of places q ≡ true
  pub covers : (q : Place) → is_held (holdings_in s trees) q ≡ true → any_of places q ≡ true → is_below (holdings_in s trees) (any_of outer) q ≡ true

-- what is stripped of the one is stripped of the others
abbrev pub StandFor : Contents → List Place → List Place → Type 0
StandFor old places outer = (a : Rights) (f : Bool) (r : Contents × Rights) → IsStripped old (any_of outer) a f r → IsStripped old (any_of places) a f r

-- ---- the trees afterwards

-- a tree can lose the places without entry: they lie in these runs, and no place stays whose origin goes
pub record CanBePruned (s : Shards) (links : Origins) (runs : List (Range ℕ)) : Type 0 where
  pub places : All (λ o. IsPlace s o.0) links
  pub rising : AreRising 0 runs (length links)
  pub runs_are : All (IsRun links) runs
  pub outside_stay : list_all (λ o. has_entry s o.0) (outside 0 runs links) ≡ true
  pub origins : OriginsHaveEntries s links

-- of each of these frames the tree can lose its places, and none comes twice
abbrev pub AllCanBePruned : Shards → List Shape → List FrameRuns → Type 0
AllCanBePruned s trees [] = ⊤
AllCanBePruned s trees (f ∷ fs) = (f.frame < length trees) × CanBePruned s (links_in trees f.frame) f.runs × All (λ g. g.frame ≡ f.frame → ⊥) fs × AllCanBePruned s trees fs

-- the places of the runs of a tree, one run after another
abbrev pub in_runs : Origins → List (Range ℕ) → List Place
in_runs os runs = flat_map (λ r. slice_range (map (λ o. o.0) os) r.start r.end) runs

-- those of the runs of frames
abbrev pub in_frames : List Shape → List FrameRuns → List Place
in_frames trees fs = flat_map (λ f. in_runs (links_in trees f.frame) f.runs) fs

-- how many nodes runs have
abbrev pub count_in_runs : List (Range ℕ) → ℕ
count_in_runs [] = 0
count_in_runs (r ∷ rs) = (r.end - r.start) + count_in_runs rs

-- how many the runs of frames have
abbrev pub count_in_frames : List FrameRuns → ℕ
count_in_frames [] = 0
count_in_frames (f ∷ fs) = count_in_runs f.runs + count_in_frames fs

-- of the nodes of the runs, in parts, those are kept whose places have entries
pub record AreKeptNodes (s : Shards) (trees : List Shape) (fs : List FrameRuns) (kept : List (List Node)) : Type 0 where
  pub parts : List (List Node)
  pub parts_are : all_places parts ≡ in_frames trees fs
  pub kept_are : kept ≡ kept_of (has_entry s) parts

-- whether a frame is one of these
abbrev pub is_planned : List FrameRuns → ℕ → Bool
is_planned fs g = list_any (λ f. f.frame == g) fs

-- the trees of these frames lost the places without entry
pub record ArePruned (s : Shards) (fs : List FrameRuns) (old new : List Shape) : Type 0 where
  pub count : length new ≡ length old
  pub there : (g : ℕ) → is_planned fs g ≡ true → links_in new g ≡ pruned s (links_in old g)
  pub elsewhere : (g : ℕ) → is_planned fs g ≡ false → links_in new g ≡ links_in old g
