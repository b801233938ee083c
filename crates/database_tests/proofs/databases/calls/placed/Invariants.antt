-- The places so far lie within the limits.
use Rattle.std.specs.List.{All}
use Rattle.mapdb.specs.Held.{IsWithin}
use Rattle.database_tests.proofs.databases.calls.placed.Given as goal

abbrev pub invariant-loop-at : goal.invariant-loop-at
invariant-loop-at g l = All (λ access. IsWithin l.database.limits access.0) l.placed.items
