-- The turns so far.
use Rattle.std.proofs.Common.{◌≡◌, length, take}
use Rattle.turns.specs.Closing.{AreMarked, numbers_of}
use Rattle.turns.proofs.open.mark.Given as goal

abbrev pub invariant-loop-turn : goal.invariant-loop-turn
invariant-loop-turn l = (length l.flags ≡ length l.initial.flags) × AreMarked l.flags (numbers_of (take l.turn-index l.turns))
