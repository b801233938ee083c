-- The deques so far are settled, and the sums stay.
use Rattle.std.proofs.Common.{◌≡◌, ℕ, ◌+◌}
use Rattle.std.specs.List.{All}
use Rattle.turns.specs.Closing.{numbers_of}
use Rattle.crew.specs.Crews.{OwnDequeContent, IsEnded, dealt_to, summed, took}
use Rattle.crew.specs.Hands.{weigh}
use Rattle.crew.proofs.settling.settle_all.Given as goal

abbrev pub invariant-loop-own : goal.invariant-loop-own
invariant-loop-own g l =
    All (IsEnded g.N.Which.shared) l.turns.items
    × ((h : ℕ → ℕ) → weigh h (numbers_of l.turns.items) + took h l.yielded ≡ weigh h (numbers_of l.initial.turns.items) + summed (λ (o : OwnDequeContent). weigh h (dealt_to g.M.Crewed.crew o.number)) l.yielded)
