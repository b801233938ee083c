-- The cuts so far.
use Rattle.std.proofs.Common.{◌-◌, ◌≤◌, length}
use Rattle.holdings.specs.Inner.StripPlans.{AreCuts}
use Rattle.holdings.proofs.batches.cuts_of.Given as goal

abbrev pub invariant-loop-cut : goal.invariant-loop-cut
invariant-loop-cut l = record { within : l.cut ≤ length l.pages; cuts : AreCuts l.pages l.cuts.items l.cut }

abbrev pub decreases-loop-cut : goal.decreases-loop-cut
decreases-loop-cut l = length l.pages - l.cut
