-- Holdings: which place holds which frame, with which rights and status, and from which place it came.
use Rattle.std.specs.Prelude.{ℕ, Bool, false, List, [], ◌∷◌, map, Option, Some, None, is_some}
use Rattle.std.specs.Option.{option_and_then, option_map_or}
use Rattle.std.specs.FinMap.Entries.{find}
use Rattle.fpage.specs.declared.rights.Rights.{Rights}
use Rattle.space.specs.declared.place.Place.{Place}
use Rattle.space.specs.Place.{place_cmp, same_place}

-- what a place holds; a mapping without origin is a root
pub record Held : Type 0 where
  pub frame : ℕ
  pub rights : Rights
  pub status : Rights
  pub origin : Option Place

-- a finite map: each held place once, by rising place
abbrev pub Holdings : Type 0
Holdings = List (Place × Held)

-- a set of places; it need not say "held"
abbrev pub PlaceSet : Type 0
PlaceSet = Place → Bool

-- the set of one place
abbrev pub only : Place → PlaceSet
only = same_place

-- what is held at a place
abbrev pub at : Holdings → Place → Option Held
at h p = find place_cmp p h

-- whether a place holds something
abbrev pub is_held : Holdings → PlaceSet
is_held h p = is_some (at h p)

-- the origin of what is held at a place
abbrev pub origin_at : Holdings → Place → Option Place
origin_at h p = option_and_then (λ m. m.origin) (at h p)

-- whether a mapping derives directly from a place
abbrev pub derives_from : Place → Held → Bool
derives_from p m = option_map_or (same_place p) m.origin false

-- the places that are held, by rising place
abbrev pub places : Holdings → List Place
places h = map (λ e. e.0) h

-- a mapping before the others, or none
abbrev pub keep : Place → Option Held → Holdings → Holdings
keep p None h = h
keep p (Some m) h = (p, m) ∷ h

-- each mapping changed, or dropped where the change gives none
abbrev pub each : (Place → Held → Option Held) → Holdings → Holdings
each change [] = []
each change (e ∷ h) = keep e.0 (change e.0 e.1) (each change h)
