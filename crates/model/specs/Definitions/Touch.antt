-- An access of a page by its space (profile).
use Rattle.std.specs.Prelude.{Bool, false, Some, if◌then◌else◌}
use Rattle.std.specs.Option.{option_map_or}
use Rattle.fpage.specs.Rights.{has, join, marks}
use Rattle.fpage.specs.declared.rights.Access.{Access}
use Rattle.space.specs.declared.place.Place.{Place}
use Rattle.space.specs.Place.{same_place}
use Rattle.model.specs.Definitions.Holdings.{Held, Holdings, at, each}

-- the page is held with the right that the access needs; otherwise it is a fault
abbrev pub can_touch : Holdings → Place → Access → Bool
can_touch h p a = option_map_or (λ m. has m.rights a) (at h p) false

-- a mapping whose status has the access's marks
abbrev pub marked : Access → Held → Held
marked a m = record m { status = join m.status (marks a) }

-- a fault changes nothing
abbrev pub touch : Holdings → Place → Access → Holdings
touch h p a = if can_touch h p a then each (λ q m. Some (if same_place p q then marked a m else m)) h else h
