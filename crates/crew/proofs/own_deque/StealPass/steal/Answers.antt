use Rattle.std.proofs.Common.{◌<◌, arith}
use Rattle.crossbeam_deque.specs.Handles.{view}
use Rattle.crew.proofs.Balances.{steals}
use Rattle.crew.proofs.own_deque.StealPass.steal.Goals as goal

pub steal_as-requires-clause-takes : goal.steal_as-requires-clause-takes
steal_as-requires-clause-takes g c =
    let v = view c.self.inside.right in let parts = c.self.invariant.3 in let has : 0 < v.parts = omega (arith, parts) in steals g.N.Which.shared c.self.inside.right.id v has
