-- The database is not halted.
use Rattle.std.proofs.Common.{◌≡◌, false}
use Rattle.l4trace_moments.proofs.explain.push_records.Given as goal

abbrev pub invariant-loop-i : goal.invariant-loop-i
invariant-loop-i g l = l.database.is_halted ≡ false
