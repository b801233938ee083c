-- The mappings of the pages before one are behind the others, as far as there is room.
use Rattle.std.proofs.Common.{◌≡◌, ◌-◌, ◌<◌, ◌≤◌, length}
use Rattle.space.specs.Directory.{pages_of}
use Rattle.mapdb.specs.Held.{pages_from}
use Rattle.c_handle.specs.Listed.{chosen, mappings_at, WritesBehind}
use Rattle.c_handle.proofs.mappings.write_space.Given as goal

abbrev pub invariant-loop-told : goal.invariant-loop-told
invariant-loop-told l = record {
  room : l.told ≤ length l.mappings;
  from_on : l.from.page ≤ l.page;
  start : pages_of l.database.limits.bits < l.page → l.page ≡ l.from.page;
  written : WritesBehind l.fn.mappings l.fn.told (mappings_at (chosen l.listing l.database.holdings) (pages_from l.from.space l.from.page (l.page - l.from.page))) l.mappings l.told;
}

abbrev pub decreases-loop-told : goal.decreases-loop-told
decreases-loop-told l = pages_of l.database.limits.bits - l.page
