-- The steps so far.
use Rattle.std.proofs.Common.{◌≡◌}
use Rattle.turns.specs.Works.{IsStripWork}
use Rattle.turns.proofs.strip_work.StripWork.narrow_some.Given as goal

abbrev pub invariant-loop-k : goal.invariant-loop-k
invariant-loop-k l = record {
  post : l.post ≡ record l.initial.post { steps = l.k };
  of : l.self.of.value ≡ l.initial.self.of.value;
  work : IsStripWork l.shared.opening.words l.self l.k;
}
