-- Accesses of which some are of pages whose shards are not there.
use Rattle.std.specs.Prelude.{nat_lt, Bool, false, List, [], ◌∷◌, drop, filter, get_or, map, if◌then◌else◌}
use Rattle.fpage.specs.declared.rights.Access.{Access}
use Rattle.space.specs.declared.place.Place.{Place}
use Rattle.space.specs.declared.shards.Shards.{Shards}
use Rattle.space.specs.Shards.{index_of, word_count}
use Rattle.pieces.specs.declared.touch.WordAccess.{WordAccess}
use Rattle.holdings.specs.Inner.Planning.{word_access}

-- whether the shard of the page is there
abbrev pub is_there : Shards → Place × Access → Bool
is_there s a = nat_lt (index_of s a.0) (word_count s)

-- the accesses whose shards are there, by their words
abbrev pub word_accesses : Shards → List (Place × Access) → List WordAccess
word_accesses s list = map (word_access s) (filter (is_there s) list)

-- the answers of accesses, where those whose shards are there were answered in their order: the others are faults
abbrev pub with_faults : List Bool → List Bool → List Bool
with_faults [] made = []
with_faults (there ∷ flags) made = if there then get_or made 0 false ∷ with_faults flags (drop 1 made) else false ∷ with_faults flags made
