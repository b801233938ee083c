-- Each round takes a turn of those that were put, and the sums stay.
use Rattle.std.proofs.Common.{◌≡◌, ℕ, ◌+◌, ◌-◌, length}
use Rattle.std.specs.List.{All}
use Rattle.turns.specs.Closing.{numbers_of}
use Rattle.crew.specs.Crews.{IsEnded}
use Rattle.crew.specs.Hands.{all_parts, weigh}
use Rattle.crew.proofs.settling.settle_one.Given as goal

abbrev pub invariant-loop-own : goal.invariant-loop-own
invariant-loop-own g l =
    All (IsEnded g.N.Which.shared) l.turns.items × (l.own.hand.parts ≡ all_parts) × (l.own.number ≡ l.initial.own.number)
    × ((h : ℕ → ℕ) → weigh h (numbers_of l.turns.items) + weigh h l.initial.own.hand.taken ≡ weigh h (numbers_of l.initial.turns.items) + weigh h l.own.hand.taken)

abbrev pub decreases-loop-own : goal.decreases-loop-own
decreases-loop-own g l = length l.own.hand.put - length l.own.hand.taken
