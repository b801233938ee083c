-- The bytes so far are the same in both.
use Rattle.std.proofs.Common.{◌≡◌, take}
use Rattle.l4trace_differences.proofs.comparison.alike.Given as goal

abbrev pub invariant-loop-i : goal.invariant-loop-i
invariant-loop-i l = take l.i l.ours ≡ take l.i l.theirs
