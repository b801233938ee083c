-- The search goes on from among the indexes.
use Rattle.std.proofs.Common.{◌≤◌, length}
use Rattle.turns.proofs.starts.Starts.among.Given as goal

abbrev pub invariant-loop : goal.invariant-loop
invariant-loop l = l.before ≤ length l.at
