-- The first of the places so far that are at or behind the place.
use Rattle.std.proofs.Common.{◌≡◌}
use Rattle.holdings.specs.Inner.FirstFrom.{IsFirstFrom}
use Rattle.holdings.proofs.below.first_from.Given as goal

abbrev pub invariant-loop-i : goal.invariant-loop-i
invariant-loop-i l = record {
  same : l.nodes ≡ l.tree.links;
  first : IsFirstFrom l.tree.links l.run.start l.i l.from l.first;
}
