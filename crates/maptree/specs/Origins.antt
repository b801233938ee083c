-- A derivation tree as its callers see it: places, each with the place from which it derives.
use Rattle.std.specs.Prelude.{◌≡◌, ℕ, zero, suc, ◌<◌, ◌≤◌, nat_le, nat_lt, ◌&&◌, Bool, true, not, ◌↔◌, ◌⊎◌, Decides, List, [], ◌∷◌, length, map, Option, Some, None, option_map, if◌then◌else◌}
use Rattle.std.specs.List.{All, list_all, list_any}
use Rattle.std.specs.declared.ops.Range.{Range}
use Rattle.std.specs.Option.{option_and_then}
use Rattle.std.specs.FinMap.Entries.{find}
use Rattle.space.specs.declared.place.Place.{Place}
use Rattle.space.specs.Place.{place_cmp, same_place}

-- each place once, with its origin; a place without origin is a root
abbrev pub Origins : Type 0
Origins = List (Place × Option Place)

-- no place comes twice
abbrev pub are_once : Origins → Bool
are_once [] = true
are_once (o ∷ os) = list_all (λ q. not (same_place o.0 q.0)) os && are_once os

-- the origin of a place; none for a root, and for a place that is not there
abbrev pub origin_in : Origins → Place → Option Place
origin_in os p = option_and_then (λ o. o) (find place_cmp p os)

-- each origin stands in the tree too
abbrev pub OriginsStand : Origins → Type 0
OriginsStand os = (p q : Place) → origin_in os p ≡ Some q → list_any (λ o. same_place q o.0) os ≡ true

-- the place to which so many origins lead, one after another
abbrev pub after_origins : ℕ → Origins → Place → Option Place
after_origins zero os p = Some p
after_origins (suc n) os p = option_and_then (after_origins n os) (origin_in os p)

-- a chain of origins, at least so many, leads from a place to another
pub record LeadsTo (os : Origins) (least : ℕ) (p q : Place) : Type 0 where
  pub origins : ℕ
  pub enough : least ≤ origins
  pub leads : after_origins origins os p ≡ Some q

-- the place at a position
abbrev pub place_at : Origins → ℕ → Place → Place
place_at [] i d = d
place_at (o ∷ os) zero d = o.0
place_at (o ∷ os) (suc i) d = place_at os i d

-- a place has so many origins
pub record HasDepth (os : Origins) (p : Place) (depth : ℕ) : Type 0 where
  pub root : Place
  pub leads : after_origins depth os p ≡ Some root
  pub ends : origin_in os root ≡ None

-- a tree as contracts see it: its places in the order of their positions, for how many more there is room, and behind how
-- many of them each part of the last cut stood
pub record Shape : Type 0 where
  pub links : Origins
  pub room : ℕ
  pub gaps : List ℕ

-- one place for another
abbrev pub swapped : Place → Place → Place → Place
swapped p q x = if same_place p x then q else x

-- a place replaced, as a place and as an origin
abbrev pub renamed : Place → Place → Origins → Origins
renamed p q os = map (λ o. (swapped p q o.0, option_map (swapped p q) o.1)) os

-- a place is one of some named places, or derives from one
pub record LeadsToOne (os : Origins) (places : List Place) (p : Place) : Type 0 where
  -- the place from which it derives, or itself
  pub named : Place
  -- that place is named
  pub among : list_any (same_place named) places ≡ true
  -- its origins lead there
  pub leads : LeadsTo os 0 p named

-- the range has the positions of one place and of all that derives from it, and no others
abbrev pub IsRun : Origins → Range ℕ → Type 0
IsRun os run = (j : ℕ) (d : Place) → j < length os
    → Decides (nat_le run.start j && nat_lt j run.end) (LeadsTo os 0 (place_at os j d) (place_at os run.start d))

-- the range begins at one of some named places
abbrev pub BeginsAtOne : Origins → List Place → Range ℕ → Type 0
BeginsAtOne os places run = (d : Place) → list_any (same_place (place_at os run.start d)) places ≡ true

-- ranges that are not empty, each beginning where the one before ended or later, the last ending by this number
abbrev pub AreRising : ℕ → List (Range ℕ) → ℕ → Type 0
AreRising from [] most = from ≤ most
AreRising from (r ∷ rs) most = (from ≤ r.start) × (r.start < r.end) × AreRising r.end rs most

-- a position lies in one of the ranges
abbrev pub LiesInOne : ℕ → List (Range ℕ) → Type 0
LiesInOne j [] = ⊥
LiesInOne j (r ∷ rs) = ((r.start ≤ j) × (j < r.end)) ⊎ LiesInOne j rs

-- the outermost runs of named places
pub record AreOuterRuns (os : Origins) (places : List Place) (runs : List (Range ℕ)) : Type 0 where
  -- they rise, none is empty and no two overlap
  pub rising : AreRising 0 runs (length os)
  -- each is the run of a place
  pub whole : All (IsRun os) runs
  -- which is named
  pub named : All (BeginsAtOne os places) runs
  -- they have the positions of what is named or derives from a named place, and no others
  pub covers : (j : ℕ) (d : Place) → j < length os → LiesInOne j runs ↔ LeadsToOne os places (place_at os j d)

-- the place from which the place at a position derives, which stands in the tree too
pub record IsOriginAt (os : Origins) (i : ℕ) (origin : Option Place) : Type 0 where
  pub is : (d : Place) → origin_in os (place_at os i d) ≡ origin
  pub stands : (q : Place) → origin ≡ Some q → list_any (λ o. same_place q o.0) os ≡ true

-- the links that a tree gives
pub record AreLinksOf (tree : Shape) (links : Origins) : Type 0 where
  pub are : links ≡ tree.links
  pub once : are_once tree.links ≡ true
  pub stand : OriginsStand tree.links
