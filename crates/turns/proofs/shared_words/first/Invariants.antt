-- It stands among those that are left.
use Rattle.std.proofs.Common.{◌≡◌, ◌-◌, ◌≤◌, false, length, drop}
use Rattle.pieces.specs.Distinct.{is_none_of}
use Rattle.turns.proofs.shared_words.first.Given as goal

abbrev pub invariant-loop-i : goal.invariant-loop-i
invariant-loop-i l = (l.i ≤ length l.at) × (is_none_of (drop l.i l.at) l.index ≡ false)

abbrev pub decreases-loop-i : goal.decreases-loop-i
decreases-loop-i l = length l.at - l.i
