-- The nodes of the runs so far.
use Rattle.std.proofs.Common.{◌≡◌, take}
use Rattle.holdings.specs.Inner.StripPlans.{count_in_runs}
use Rattle.holdings.proofs.prune.count_in_runs.Given as goal

abbrev pub invariant-loop-run : goal.invariant-loop-run
invariant-loop-run l = l.count ≡ count_in_runs (take l.run-index l.runs)
