-- the mappings of the spaces so far are written, as far as there is room
use Rattle.std.proofs.Common.{◌≤◌, length}
use Rattle.space.specs.Directory.{pages_of}
use Rattle.c_handle.specs.Listed.{chosen, first_of, mappings_at, places_to, WritesBehind}
use Rattle.c_handle.proofs.mappings.write_spaces.Given as goal

abbrev pub invariant-loop-space : goal.invariant-loop-space
invariant-loop-space l = record {
  room : l.told ≤ length l.mappings;
  written : WritesBehind l.fn.mappings 0 (mappings_at (chosen l.listing l.database.holdings) (places_to (pages_of l.database.limits.bits) (first_of l.listing).space (first_of l.listing).page l.space)) l.mappings l.told;
}
