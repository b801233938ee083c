-- What is held, as mappings.
use Rattle.std.specs.Prelude.{◌≡◌, ℕ, ◌-◌, ◌<◌, ◌≤◌, true, None}
use Rattle.space.specs.Directory.{pages_of}
use Rattle.space.specs.declared.place.Place.{Place}
use Rattle.model.specs.Definitions.Holdings.{Held, Holdings, at, is_held}
use Rattle.holdings.specs.Contents.{Contents}
use Rattle.holdings.specs.Places.{pages_from, listed}
use Rattle.holdings.specs.declared.mapping.Mapping.{Mapping}

-- a mapping as the definitions have it: its place, and what is held there
abbrev pub mapped_of : Mapping → Place × Held
mapped_of m = (m.place, record { frame = m.frame; rights = m.rights; status = m.status; origin = m.origin })

-- what the pages of a space from a page on hold, by rising page
abbrev pub held_from : Contents → ℕ → ℕ → Holdings
held_from c space page = listed (at c.holdings) (pages_from space page (pages_of c.limits.bits - page))

-- no page of a space, from one on and before another, holds anything
abbrev pub AreAbsentFrom : Holdings → ℕ → ℕ → ℕ → Type 0
AreAbsentFrom h space page end = (p : Place) → p.space ≡ space → page ≤ p.page → p.page < end → at h p ≡ None

-- the first page of a space, from one on and before another, that holds something
pub record IsNextHeldOf (h : Holdings) (space page end : ℕ) (q : Place) : Type 0 where
  pub space_is : q.space ≡ space
  pub from : page ≤ q.page
  pub before : q.page < end
  pub held : is_held h q ≡ true
  pub absent : AreAbsentFrom h space page q.page
