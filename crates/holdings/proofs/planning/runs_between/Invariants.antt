-- The groups so far.
use Rattle.std.proofs.Common.{◌-◌, ◌≤◌}
use Rattle.holdings.specs.Inner.StripPlans.{AreRunsBetween}
use Rattle.holdings.proofs.planning.runs_between.Given as goal

abbrev pub invariant-loop-first : goal.invariant-loop-first
invariant-loop-first l = record { order : l.from ≤ l.first; upto : l.first ≤ l.to; runs : AreRunsBetween l.trees l.pages l.from l.first l.frames.items }

-- each page comes once
abbrev pub decreases-loop-first : goal.decreases-loop-first
decreases-loop-first l = l.to - l.first
