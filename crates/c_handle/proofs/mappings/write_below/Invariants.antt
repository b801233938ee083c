-- Some mappings are written, as far as there is room, and the others are at or behind a place.
use Rattle.std.proofs.Common.{◌≡◌, ◌≤◌, ◌++◌, List, length}
use Rattle.space.specs.Directory.{pages_of}
use Rattle.mapdb.specs.Held.{held_below}
use Rattle.c_handle.specs.Listed.{mappings_of, WritesBehind}
use Rattle.c_handle.specs.declared.mappings.Listing.TheVariants.{Below}
use Rattle.c_handle.specs.declared.mappings.MappingReply.{MappingReply}
use Rattle.c_handle.proofs.FoundBelow.{rest}
use Rattle.c_handle.proofs.mappings.write_below.Given as goal

abbrev pub invariant-loop-told : goal.invariant-loop-told
invariant-loop-told l = record {
  room : l.told ≤ length l.mappings;
  so_far : List MappingReply;
  split : mappings_of (Below l.above l.fn.first) l.database.holdings
      ≡ so_far ++ rest (held_below l.database.holdings l.above) (pages_of l.database.limits.bits) l.database.limits.spaces l.from.space l.from.page;
  written : WritesBehind l.fn.mappings 0 so_far l.mappings l.told;
}

abbrev pub decreases-loop-told : goal.decreases-loop-told
decreases-loop-told l = length (rest (held_below l.database.holdings l.above) (pages_of l.database.limits.bits) l.database.limits.spaces l.from.space l.from.page)
