-- The indexes so far.
use Rattle.std.proofs.Common.{◌≡◌, ◌++◌, take}
use Rattle.pieces.specs.Contents.{puts_of}
use Rattle.pieces.proofs.changes.push_puts.Given as goal

abbrev pub invariant-loop-store : goal.invariant-loop-store
invariant-loop-store l = l.indexes.items ≡ l.initial.indexes.items ++ puts_of (take l.store-index l.store-items)
