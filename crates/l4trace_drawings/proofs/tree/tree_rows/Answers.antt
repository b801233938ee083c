-- Sorting moves rows, and drops none.
use Rattle.std.proofs.lemmas.List.Sorted.{IsPermutation-map}
use Rattle.l4trace_drawings.specs.Tree.{mapping_in}
use Rattle.l4trace_drawings.proofs.tree.tree_rows.Goals as goal

pub returns : goal.returns
returns c =
    let moved = IsPermutation-map mapping_in c.in_ok-rows.rows.items c.sort_by_key.new.self.items c.sort_by_key.ensures.permutation in
    rw c.in_ok-rows.ensures at moved
