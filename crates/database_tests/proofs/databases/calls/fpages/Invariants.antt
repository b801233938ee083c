-- The fpages so far lie within a space.
use Rattle.std.specs.List.{All}
use Rattle.fpage.specs.Fpage.{IsFpageOf}
use Rattle.database_tests.proofs.databases.calls.fpages.Given as goal

abbrev pub invariant-loop-word : goal.invariant-loop-word
invariant-loop-word g l = All (IsFpageOf l.database.limits.bits) l.fpages.items
