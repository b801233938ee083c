-- The runs that are gone so far.
use Rattle.std.proofs.Common.{◌≡◌, ◌-◌, ◌≤◌}
use Rattle.holdings.specs.Inner.Stripping.{AreGoneUpTo}
use Rattle.holdings.proofs.prune.add_gone.Given as goal

abbrev pub invariant-loop-i : goal.invariant-loop-i
invariant-loop-i l = record {
  from : l.run.start ≤ l.i;
  upto : l.i ≤ l.run.end;
  nodes : l.nodes ≡ l.tree.links;
  gone : AreGoneUpTo l.shards l.tree.links l.i l.gone.items;
}

abbrev pub decreases-loop-i : goal.decreases-loop-i
decreases-loop-i l = l.run.end - l.i
