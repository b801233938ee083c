-- The node at the seat.
use Rattle.std.proofs.Common.{length, ap, arith}
use Rattle.maptree.specs.Blocks.{nodes_in}
use Rattle.maptree.proofs.AtSeat.{node_at_seat}
use Rattle.maptree.proofs.blocks.Blocks.get.Goals as goal

pub returns-clause-node : goal.returns-clause-node
returns-clause-node c = node_at_seat c.self.inside.blocks.items c.args.self.now.blocks c.args.i c.seat_of-seat.result c.index.result.now c.get.result (ap (λ v. v.blocks) c.self.view_is) c.seat_of-seat.ensures.seat c.seat_of-seat.ensures.inside c.index.ensures c.get.ensures

pub returns-clause-fits : goal.returns-clause-fits
returns-clause-fits c = let size = ap (λ v. length (nodes_in v.blocks)) c.self.view_is in omega (arith, size, c.self.invariant.0, c.self.invariant.4)
