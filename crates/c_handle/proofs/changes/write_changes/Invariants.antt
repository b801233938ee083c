-- The pages so far are written.
use Rattle.std.proofs.Common.{take}
use Rattle.c_handle.specs.Changed.{changes_from}
use Rattle.c_handle.specs.Listed.{IsWritten}
use Rattle.c_handle.proofs.changes.write_changes.Given as goal

abbrev pub invariant-loop-i : goal.invariant-loop-i
invariant-loop-i l = IsWritten l.fn.changes (changes_from l.database (take l.i l.notes)) l.changes l.i
