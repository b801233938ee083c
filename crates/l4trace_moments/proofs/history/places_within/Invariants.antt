-- There is each page so far.
use Rattle.std.specs.List.{All}
use Rattle.mapdb.specs.Held.{limits_of, IsWithin}
use Rattle.l4trace_moments.proofs.history.places_within.Given as goal

abbrev pub invariant-loop-place : goal.invariant-loop-place
invariant-loop-place l = All (IsWithin (limits_of l.limits)) l.within.items
