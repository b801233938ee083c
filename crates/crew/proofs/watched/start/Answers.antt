use denote.Param.Send.{sendable}
use Rattle.crew.proofs.Crosses.{observer_send}
use Rattle.crew.proofs.watched.start.Goals as goal

pub spawn_with-requires-send-F : goal.spawn_with-requires-send-F
spawn_with-requires-send-F g c κs within = let y = c.type_bounds.sync-O in search (observer_send, y, sendable) depth 20
