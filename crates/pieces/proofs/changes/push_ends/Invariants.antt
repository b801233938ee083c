-- The indexes so far.
use Rattle.std.proofs.Common.{◌≡◌, ◌++◌, take}
use Rattle.pieces.specs.Contents.{ends_of}
use Rattle.pieces.proofs.changes.push_ends.Given as goal

abbrev pub invariant-loop-pair : goal.invariant-loop-pair
invariant-loop-pair l = l.indexes.items ≡ l.initial.indexes.items ++ ends_of (take l.pair-index l.pair-items)
