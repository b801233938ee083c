use denote.Param.Send.{sendable}
use Rattle.turns.proofs.Crosses.{turn_send, open_sync}
use Rattle.phase_tests.proofs.threads.both_ended.Goals as goal

pub join-requires-send-F : goal.join-requires-send-F
join-requires-send-F g c κs within = search (turn_send, open_sync, sendable) depth 20

pub join-requires-send-A : goal.join-requires-send-A
join-requires-send-A g c κs within = search (turn_send, sendable)
