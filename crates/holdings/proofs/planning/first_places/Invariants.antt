-- The first places of the frames so far are there.
use Rattle.std.proofs.Common.{◌≡◌, take}
use Rattle.holdings.specs.Inner.StripPlans.{all_firsts}
use Rattle.holdings.proofs.planning.first_places.Given as goal

abbrev pub invariant-loop-frame : goal.invariant-loop-frame
invariant-loop-frame l = l.outer.items ≡ all_firsts l.trees (take l.frame-index l.frames)
