-- What pages hold.
use Rattle.std.specs.Prelude.{◌≡◌, false, List}
use Rattle.std.specs.List.{All}
use Rattle.space.specs.declared.place.Place.{Place}
use Rattle.model.specs.Definitions.Holdings.{Held}
use Rattle.mapdb.specs.Held.{IsWithin, mapped_of, Mapping}
use Rattle.mapdb.specs.State.{State}

-- what a mapping says of its page
abbrev pub held_of : Mapping → Held
held_of m = (mapped_of m).1

-- a database that is not halted, and has each of some pages
pub record IsRunning (s : State) (places : List Place) : Type 0 where
  pub running : s.is_halted ≡ false
  pub within : All (IsWithin s.limits) places
