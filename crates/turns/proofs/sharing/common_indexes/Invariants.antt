-- The indexes so far.
use Rattle.std.proofs.Common.{◌≡◌, take}
use Rattle.std.specs.List.{flat_map}
use Rattle.turns.specs.SharedWords.{common}
use Rattle.turns.proofs.sharing.common_indexes.Given as goal

abbrev pub invariant-loop-piece : goal.invariant-loop-piece
invariant-loop-piece l = l.at.items ≡ flat_map common (take l.piece-index l.pieces)
