-- The turns so far, a seat that has the pieces to come, and these.
use Rattle.std.proofs.Common.{◌≡◌, ◌-◌, ◌≤◌, length, drop}
use Rattle.turns.specs.SharedWords.{IsSeat}
use Rattle.turns.specs.Turns.{new_turns}
use Rattle.turns.proofs.Dealing.{left}
use Rattle.turns.proofs.open.deal.Given as goal

abbrev pub invariant-loop-piece : goal.invariant-loop-piece
invariant-loop-piece l =
    let k = length l.turns.items in
    IsSeat l.shared l.seat.table_id l.seat.me × (l.seat.me.0.counts ≡ left k (length l.fn.pieces.items - k)) × (l.turns.items ≡ new_turns l.shared k) × (drop k l.fn.pieces.items ≡ l.left) × (k ≤ length l.fn.pieces.items)

abbrev pub decreases-loop-piece : goal.decreases-loop-piece
decreases-loop-piece l = length l.left
