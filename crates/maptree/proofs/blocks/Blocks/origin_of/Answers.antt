-- What stands before a node's seat is fewer than all nodes.
use Rattle.std.proofs.Common.{◌≡◌, ◌<◌, ◌+◌, length, ap, rules, arith}
use Rattle.maptree.specs.Blocks.{nodes_in}
use Rattle.maptree.proofs.InBlocks.{count_to, count_cut}
use Rattle.maptree.proofs.Starts.{start_read}
use Rattle.maptree.proofs.blocks.Blocks.origin_of.Goals as goal

pub overflow_add-result : goal.overflow_add-result
overflow_add-result c =
    let bs = c.args.self.now.blocks in
    let items = c.self.inside.blocks.items in
    let seat = c.in_ok-seat.seat in
    let has = c.in_ok-seat.ensures.inside in
    let same : items ≡ bs = ap (λ v. v.blocks) c.self.view_is in
    let count = ap length same in
    let in_bs = has.within in
    let within : seat.block < length items = omega (arith, count, in_bs) in
    let before = start_read items bs c.self.inside.starts seat.block c.get.result same c.self.invariant.5 within c.get.ensures in
    let size = ap (λ l. length (nodes_in l)) same in
    let next = count_to bs seat.block in_bs in
    let all = count_cut bs (seat.block + 1) in
    let inside = has.inside in
    search (rules, arith, inside, before, size, next, all)
