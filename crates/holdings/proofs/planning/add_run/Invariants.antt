-- The strips of the parts so far, and the pages to come.
use Rattle.std.proofs.Common.{◌-◌}
use Rattle.holdings.specs.Inner.StripPlans.{pages_of}
use Rattle.holdings.proofs.Planned.Parts.{IsAddedUpTo}
use Rattle.holdings.proofs.planning.add_run.Given as goal

abbrev pub invariant-loop-at : goal.invariant-loop-at
invariant-loop-at l =
    IsAddedUpTo l.shards l.revoked l.flush l.fn.origin (pages_of l.tree.links l.run.start l.run.end) (pages_of l.tree.links l.at l.run.end) l.initial.pieces.items l.spared l.pieces.items

-- each page comes once
abbrev pub decreases-loop-at : goal.decreases-loop-at
decreases-loop-at l = l.run.end - l.at
