-- Fewer nodes stand before the block, and no fewer before the next.
use Rattle.std.proofs.Common.{◌≡◌, ◌<◌, length, get_or, [], ap, arith}
use Rattle.maptree.specs.Blocks.{nodes_in}
use Rattle.maptree.proofs.Starts.{last_seat, start_read}
use Rattle.maptree.proofs.blocks.Blocks.seat.Goals as goal

pub returns-clause-seat : goal.returns-clause-seat
returns-clause-seat c =
    let items = c.self.inside.blocks.items in
    let bs = c.args.self.now.blocks in
    let k = c.last_below-block.result.0 in
    let same : items ≡ bs = ap (λ v. v.blocks) c.self.view_is in
    let size = ap length same in
    let count = c.self.invariant.5.count in
    let inside = c.last_below-block.ensures.within in
    let within : k < length items = omega (arith, count, inside) in
    let before = start_read items bs c.self.inside.starts k c.last_below-block.result.1 same c.self.invariant.5 within c.last_below-block.ensures.before in
    let all = ap (λ l. length (nodes_in l)) same in
    let most = c.requires in
    let seat = last_seat items c.self.inside.starts k c.args.i c.self.invariant.5 within c.last_below-block.ensures.below c.last_below-block.ensures.next (omega (arith, all, most)) in
    let there = ap (λ l. length (get_or l k [])) same in
    let start = c.last_below-block.ensures.before in
    record { within = omega (arith, within, size); upto = omega (arith, seat.1, there, start); before = omega (arith, before, seat.0, start) }
