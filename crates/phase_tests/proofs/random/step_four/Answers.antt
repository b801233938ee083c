use denote.Param.Send.{sendable}
use Rattle.std.proofs.Crossing.{crosses}
use Rattle.turns.proofs.Crosses.{turn_send, open_sync}
use Rattle.phase_tests.proofs.random.step_four.Goals as goal

pub join-requires-send-F : goal.join-requires-send-F
join-requires-send-F g c κs within = search (turn_send, open_sync, sendable, crosses) depth 40

pub join-requires-send-A : goal.join-requires-send-A
join-requires-send-A g c κs within = search (turn_send, sendable) depth 20
