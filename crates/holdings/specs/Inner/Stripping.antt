-- The pages that are stripped, and a tree of which some are gone.
use Rattle.std.specs.List.{list_any, list_all, slice_range, All}
use Rattle.std.specs.Prelude.{◌≡◌, ℕ, ◌+◌, ◌<◌, ◌≤◌, ◌==◌, Bool, true, not, List, Some, ◌&&◌, map, filter, if◌then◌else◌}
use Rattle.std.specs.declared.ops.Range.{Range}
use Rattle.space.specs.Place.{same_place}
use Rattle.space.specs.Shards.{entry_at}
use Rattle.space.specs.declared.place.Entry.{Entry}
use Rattle.space.specs.declared.place.Place.{Place}
use Rattle.space.specs.declared.shards.Shards.{Shards}
use Rattle.maptree.specs.Origins.{Origins, Shape, origin_in, place_at, AreRising, IsRun, LiesInOne}
use Rattle.model.specs.Definitions.Holdings.{PlaceSet}
use Rattle.holdings.specs.Inner.Held.{is_place, has_entry, has_frame, limits_in}
use Rattle.holdings.specs.Places.{any_of}
use Rattle.holdings.specs.declared.pages.HeldPage.{HeldPage}
use Rattle.holdings.specs.declared.prune.Left.{Left}

-- a place of these
abbrev pub any_page : List HeldPage → PlaceSet
any_page pages p = list_any (λ h. same_place p h.place) pages

-- a page's frame is that of its entry
abbrev pub HasItsFrame : Shards → HeldPage → Type 0
HasItsFrame shards h = has_frame h.frame (entry_at shards h.place) ≡ true

-- the held pages of a set, with their frames
pub record AreHeldPages (shards : Shards) (set : PlaceSet) (pages : List HeldPage) : Type 0 where
  pub named : (p : Place) → any_page pages p ≡ (set p && has_entry shards p)
  pub frames : All (HasItsFrame shards) pages

-- the places of pages
abbrev pub places_in : List HeldPage → List Place
places_in pages = map (λ h. h.place) pages

-- the pages of a frame: what is held of these places is of the frame
abbrev pub AreOfFrame : Shards → List Shape → ℕ → List Place → Type 0
AreOfFrame shards trees frame places = (p : Place) (e : Entry) → any_of places p ≡ true → is_place (limits_in shards trees) p ≡ true → entry_at shards p ≡ Some e → e.frame ≡ frame

-- the first places of runs of a tree
abbrev pub firsts : Origins → List (Range ℕ) → List Place
firsts os runs = map (λ r. place_at os r.start (record { space = 0; page = 0 })) runs

-- each place that has an origin in the tree and an entry has an origin with an entry
abbrev pub OriginsHaveEntries : Shards → Origins → Type 0
OriginsHaveEntries shards os = (p o : Place) → origin_in os p ≡ Some o → has_entry shards p ≡ true → has_entry shards o ≡ true

-- a tree without the places that have no entry
abbrev pub pruned : Shards → Origins → Origins
pruned shards os = filter (λ o. has_entry shards o.0) os

-- the places of runs of a tree, which end by a position, have no entry, and each place before it that lies in none of
-- them has one
pub record AreGoneUpTo (shards : Shards) (os : Origins) (to : ℕ) (runs : List (Range ℕ)) : Type 0 where
  pub rising : AreRising 0 runs to
  pub whole : All (IsRun os) runs
  pub gone : list_all (λ r. list_all (λ o. not (has_entry shards o.0)) (slice_range os r.start r.end)) runs ≡ true
  pub held : (j : ℕ) (d : Place) → j < to → (LiesInOne j runs → ⊥) → has_entry shards (place_at os j d) ≡ true

-- what is known to be left of one place more, at a position
abbrev pub with_next : Left → ℕ → Bool → Left
with_next left i held =
    if left.held_to == i && held then record { held_to = i + 1; rest_gone = left.rest_gone }
    else record { held_to = left.held_to; rest_gone = left.rest_gone && not held }

-- what is known to be left of the places in a run of a tree is so
pub record IsLeft (shards : Shards) (os : Origins) (run : Range ℕ) (left : Left) : Type 0 where
  pub from : run.start ≤ left.held_to
  pub upto : left.held_to ≤ run.end
  pub held : list_all (λ o. has_entry shards o.0) (slice_range os run.start left.held_to) ≡ true
  pub gone : left.rest_gone ≡ true → list_all (λ o. not (has_entry shards o.0)) (slice_range os left.held_to run.end) ≡ true
