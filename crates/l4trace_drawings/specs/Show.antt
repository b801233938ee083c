-- Which mappings are shown.
use Rattle.std.specs.Prelude.{ℕ, Bool, true, ◌==◌, ◌&&◌, Option, Some, None}
use Rattle.mapdb.specs.Held.{Mapping}

-- whether a number is that which is asked for, if one is
abbrev pub is_asked : Option ℕ → ℕ → Bool
is_asked None n = true
is_asked (Some m) n = n == m

-- whether a mapping is of the frame and of the space that are asked for
abbrev pub is_chosen : Option ℕ → Option ℕ → Mapping → Bool
is_chosen frame space m = is_asked frame m.frame && is_asked space m.place.space
