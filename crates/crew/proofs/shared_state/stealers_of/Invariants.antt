-- The stealers so far.
use Rattle.std.proofs.Common.{◌≡◌, map, take}
use Rattle.crossbeam_deque.specs.Handles.{stealer_deque}
use Rattle.crew.specs.Crews.{deques_of}
use Rattle.crew.proofs.shared_state.stealers_of.Given as goal

abbrev pub invariant-loop-own : goal.invariant-loop-own
invariant-loop-own g l = map stealer_deque l.stealers.items ≡ take l.own-index (deques_of g.M.Crewed.crew)
