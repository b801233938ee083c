-- All so far are of the frame.
use Rattle.std.proofs.Common.{◌≡◌, ◌==◌, true}
use Rattle.std.specs.List.{list_all, slice_range}
use Rattle.holdings.proofs.group.group_end.Given as goal

abbrev pub invariant-loop-i : goal.invariant-loop-i
invariant-loop-i g l = list_all (λ x. g.T.OfFrame.frame_of x == l.frame) (slice_range l.items l.from l.i) ≡ true
