-- The rows so far have the mappings so far.
use Rattle.std.proofs.Common.{◌≡◌, map, take}
use Rattle.l4trace_drawings.specs.Tree.{mapping_in}
use Rattle.l4trace_drawings.proofs.tree.rows_of.Given as goal

abbrev pub invariant-loop-i : goal.invariant-loop-i
invariant-loop-i l = map mapping_in l.rows.items ≡ take l.i l.mappings
