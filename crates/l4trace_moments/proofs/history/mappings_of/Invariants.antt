-- What the pages so far hold.
use Rattle.std.proofs.Common.{◌≡◌, map, take}
use Rattle.std.specs.Option.{option_map}
use Rattle.model.specs.Definitions.Holdings.{at}
use Rattle.l4trace_moments.specs.History.{held_of}
use Rattle.l4trace_moments.proofs.history.mappings_of.Given as goal

abbrev pub invariant-loop-place : goal.invariant-loop-place
invariant-loop-place l = map (option_map held_of) l.held.items ≡ map (at l.database.holdings) (take l.place-index l.places)
