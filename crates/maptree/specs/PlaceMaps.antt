-- A place for each of some pages of one space.
use Rattle.std.specs.Prelude.{◌≡◌, ℕ, ◌-◌, ◌==◌, ◌&&◌, nat_le, List, Option, None, Some, slice_index_or, if◌then◌else◌}
use Rattle.space.specs.declared.place.Place.{Place}

-- the places for the pages of a space, the first for this page
pub record Places : Type 0 where
  pub space : ℕ
  pub first : ℕ
  pub places : List (Option Place)

-- the place for one, if it has any
abbrev pub place_for : Places → Place → Option Place
place_for new p = if p.space == new.space && nat_le new.first p.page then slice_index_or new.places (p.page - new.first) None else None

-- no place that stands for another has one that stands for it
abbrev pub IsApart : (Place → Option Place) → Type 0
IsApart new = (p q : Place) → new p ≡ Some q → new q ≡ None
