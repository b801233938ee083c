-- The first page that derives from another, or is that page.
use Rattle.std.specs.Prelude.{◌≡◌, true, false, Option, None, if◌then◌else◌}
use Rattle.space.specs.declared.place.Place.{Place}
use Rattle.model.specs.Definitions.Derived.{is_below}
use Rattle.model.specs.Definitions.Holdings.{Held, Holdings, at, is_held, only}
use Rattle.holdings.specs.Places.{from_page}

-- what a place holds, if it is below a page
abbrev pub held_below : Holdings → Place → Place → Option Held
held_below h above p = if is_below h (only above) p then at h p else None

-- no place at or behind another is below the page
abbrev pub IsNoneBelow : Holdings → Place → Place → Type 0
IsNoneBelow h above from = (p : Place) → from_page from.space from.page p ≡ true → held_below h above p ≡ None

-- the first one that is
pub record IsNextBelow (h : Holdings) (above from q : Place) : Type 0 where
  pub behind : from_page from.space from.page q ≡ true
  pub below : is_below h (only above) q ≡ true
  pub held : is_held h q ≡ true
  pub before : (p : Place) → from_page from.space from.page p ≡ true → from_page q.space q.page p ≡ false → held_below h above p ≡ None
