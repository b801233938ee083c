-- The trees so far have lost their runs, and those to come have none of their places.
use Rattle.std.proofs.Common.{◌≡◌, true, not, drop}
use Rattle.std.specs.List.{list_all}
use Rattle.holdings.specs.Inner.Held.{has_entry}
use Rattle.holdings.specs.Inner.StripPlans.{in_frames}
use Rattle.holdings.proofs.Planned.Trees.{ArePrunedUpTo}
use Rattle.holdings.proofs.prune.remove_all.Given as goal

abbrev pub invariant-loop-frame : goal.invariant-loop-frame
invariant-loop-frame l =
    ArePrunedUpTo l.shards l.frames l.fn.trees l.frame-index l.trees × (list_all (λ p. not (has_entry l.shards p)) (in_frames l.trees (drop l.frame-index l.frames)) ≡ true)
