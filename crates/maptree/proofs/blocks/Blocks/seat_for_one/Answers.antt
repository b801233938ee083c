-- Behind all nodes of a full block the next one begins.
use Rattle.std.proofs.Common.{◌≡◌, length, ap, rules, arith}
use Rattle.maptree.proofs.InBlocks.{read_of, as_read, next_seat}
use Rattle.maptree.proofs.blocks.Blocks.seat_for_one.Goals as goal

pub returns : goal.returns
returns c =
    let items = c.self.inside.blocks.items in
    let bs = c.args.self.now.blocks in
    let seat = c.seat-seat.result in
    let block = c.index.result.now in
    let within = c.seat-seat.ensures.seat.within in
    let same : items ≡ bs = ap (λ v. v.blocks) c.self.view_is in
    let count = ap length same in
    let read = ap length (as_read bs seat.block block within (read_of items bs seat.block block same c.index.ensures)) in
    next_seat bs seat.block seat.offset c.args.i c.seat-seat.ensures.seat (search (rules, arith, read)) (search (rules, arith, count, within))
