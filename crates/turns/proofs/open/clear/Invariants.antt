-- The flags so far.
use Rattle.std.proofs.Common.{◌≡◌, ℕ, ◌<◌, Bool, false, length, get_or}
use Rattle.turns.proofs.open.clear.Given as goal

abbrev pub invariant-loop-p : goal.invariant-loop-p
invariant-loop-p l = (length l.flags ≡ length l.initial.flags) × ((q : ℕ) → q < l.p → q < length l.flags → (d : Bool) → get_or l.flags q d ≡ false)
