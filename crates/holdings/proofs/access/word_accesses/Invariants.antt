-- The accesses so far.
use Rattle.std.proofs.Common.{◌≡◌, filter, map, take}
use Rattle.holdings.specs.Inner.Faults.{is_there}
use Rattle.holdings.specs.Inner.Planning.{word_access}
use Rattle.holdings.proofs.access.word_accesses.Given as goal

abbrev pub invariant-loop-place : goal.invariant-loop-place
invariant-loop-place l = l.list.items ≡ map (word_access l.shards) (filter (is_there l.shards) (take l.place-index l.accesses))
