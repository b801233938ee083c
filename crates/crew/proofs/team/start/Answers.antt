use denote.Param.Send.{sendable}
use Rattle.std.proofs.Crossing.{crosses}
use Rattle.crew.proofs.Crosses.{emptied_send, closure_send}
use Rattle.crew.proofs.team.start.Goals as goal

pub spawn_scoped_with-requires-send-F : goal.spawn_scoped_with-requires-send-F
spawn_scoped_with-requires-send-F g c κs within = let y = c.type_bounds.sync-G in search (closure_send, y, sendable) depth 20

pub spawn_scoped_with-requires-send-T : goal.spawn_scoped_with-requires-send-T
spawn_scoped_with-requires-send-T g c κs within = search (emptied_send, sendable, crosses) depth 20
