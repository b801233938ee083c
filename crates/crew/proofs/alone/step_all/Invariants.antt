-- The turns so far have ended, and are those that were given.
use Rattle.std.proofs.Common.{◌≡◌}
use Rattle.std.specs.List.{All}
use Rattle.turns.specs.Closing.{numbers_of}
use Rattle.crew.specs.Crews.{IsEnded}
use Rattle.crew.proofs.alone.step_all.Given as goal

abbrev pub invariant-loop-turn : goal.invariant-loop-turn
invariant-loop-turn l = record {
  ended : All (IsEnded l.shared) l.ended.items;
  numbers : numbers_of l.ended.items ≡ numbers_of l.yielded;
}
