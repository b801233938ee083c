-- Places within the limits, as a set and in order.
use Rattle.std.specs.List.{list_any}
use Rattle.std.specs.Prelude.{ℕ, ◌+◌, ◌<◌, nat_lt, nat_le, ◌==◌, ◌&&◌, ◌||◌, List, Option, zero, suc, [], ◌∷◌, ◌++◌}
use Rattle.space.specs.Directory.{pages_of}
use Rattle.space.specs.Place.{same_place}
use Rattle.space.specs.declared.place.Place.{Place}
use Rattle.model.specs.Definitions.Calls.{Limits}
use Rattle.model.specs.Definitions.Holdings.{Held, Holdings, keep, PlaceSet}

-- a page of one of the spaces
pub record IsWithin (limits : Limits) (p : Place) : Type 0 where
  pub space : p.space < limits.spaces
  pub page : p.page < pages_of limits.bits

-- the places at or behind a page, by space and page
abbrev pub from_page : ℕ → ℕ → PlaceSet
from_page space page p = nat_lt space p.space || ((p.space == space) && nat_le page p.page)

-- the set of some places
abbrev pub any_of : List Place → PlaceSet
any_of places p = list_any (same_place p) places

-- so many pages of a space from a page on
abbrev pub pages_from : ℕ → ℕ → ℕ → List Place
pages_from space page zero = []
pages_from space page (suc n) = record { space = space; page = page } ∷ pages_from space (page + 1) n

-- the pages of so many spaces from a space on, each space with so many pages
abbrev pub spaces_from : ℕ → ℕ → ℕ → List Place
spaces_from pages space zero = []
spaces_from pages space (suc n) = pages_from space 0 pages ++ spaces_from pages (space + 1) n

-- what is held at these places, in their order
abbrev pub listed : (Place → Option Held) → List Place → Holdings
listed held [] = []
listed held (p ∷ ps) = keep p (held p) (listed held ps)

-- what is held at the places within the limits, by rising place
unfoldable pub listing : Limits → (Place → Option Held) → Holdings
listing limits held = listed held (spaces_from (pages_of limits.bits) 0 limits.spaces)
