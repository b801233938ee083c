use denote.Param.Send.{sendable}
use Rattle.turns.proofs.Crosses.{turn_send, watcher_send, open_sync}
use Rattle.phase_tests.proofs.watchers.looked_beside.Goals as goal

pub join-looked-requires-send-F : goal.join-looked-requires-send-F
join-looked-requires-send-F g c κs within = search (turn_send, open_sync, sendable) depth 20

pub join-looked-requires-send-A : goal.join-looked-requires-send-A
join-looked-requires-send-A g c κs within = search (turn_send, sendable)
