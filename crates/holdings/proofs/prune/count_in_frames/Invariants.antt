-- The nodes of the runs of the frames so far.
use Rattle.std.proofs.Common.{◌≡◌, take}
use Rattle.holdings.specs.Inner.StripPlans.{count_in_frames}
use Rattle.holdings.proofs.prune.count_in_frames.Given as goal

abbrev pub invariant-loop-frame : goal.invariant-loop-frame
invariant-loop-frame l = l.count ≡ count_in_frames (take l.frame-index l.frames)
