-- The indexes so far.
use Rattle.std.proofs.Common.{◌≡◌, take}
use Rattle.std.specs.List.{flat_map}
use Rattle.pieces.specs.Phases.{changes}
use Rattle.pieces.proofs.changes.changed_indexes.Given as goal

abbrev pub invariant-loop-piece : goal.invariant-loop-piece
invariant-loop-piece l = l.indexes.items ≡ flat_map changes (take l.piece-index l.pieces)
