-- The first places of the runs so far are there.
use Rattle.std.proofs.Common.{◌≡◌, ◌++◌, take}
use Rattle.holdings.specs.Inner.Stripping.{firsts}
use Rattle.holdings.proofs.planning.add_firsts.Given as goal

abbrev pub invariant-loop-run : goal.invariant-loop-run
invariant-loop-run l = l.outer.items ≡ l.fn.outer.items ++ firsts l.tree.links (take l.run-index l.run-items)
