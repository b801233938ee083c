-- The run ends in the block of the node, or behind it.
use Rattle.std.proofs.Common.{◌≡◌, ◌≤◌, ◌<◌, ◌+◌, length, drop, ap, rules, arith, ◌∙◌, sym}
use Rattle.std.proofs.lemmas.List.{length-drop}
use Rattle.maptree.specs.Nodes.{run_len}
use Rattle.maptree.specs.Blocks.{nodes_in}
use Rattle.maptree.proofs.Positions.{run_len-le}
use Rattle.maptree.proofs.AtSeat.{node_at_seat}
use Rattle.maptree.proofs.InBlocks.{counts, read_of, as_read, behind_node, run_append, run_through}
use Rattle.maptree.proofs.blocks.Blocks.run_of.Goals as goal

pub overflow_add-seat-3 : goal.overflow_add-seat-3
overflow_add-seat-3 c =
    let block = c.index-first.result.now in
    let low = run_len-le c.get-node.result.depth (drop (c.seat_of-seat.result.offset + 1) block) in
    let size = length-drop (c.seat_of-seat.result.offset + 1) block in
    let run = c.deeper-deeper.ensures in
    search (rules, arith, low, size, run)

pub returns-then-seat-deeper-clause-run : goal.returns-then-seat-deeper-clause-run
returns-then-seat-deeper-clause-run c =
    let bs = c.args.self.now.blocks in
    let seat = c.seat_of-seat.result in
    let block = c.index-first.result.now in
    let same : c.self.inside.blocks.items ≡ bs = ap (λ v. v.blocks) c.self.view_is in
    let read = as_read bs seat.block block c.seat_of-seat.ensures.seat.within (read_of c.self.inside.blocks.items bs seat.block block same c.index-first.ensures) in
    let rest = drop (seat.offset + 1) block in
    let size = length-drop (seat.offset + 1) block in
    let run = c.deeper-deeper.ensures in
    let less : c.deeper-deeper.result < length rest = search (rules, arith, size) in
    run ∙ sym (run_append c.get-node.result.depth rest (nodes_in (drop (seat.block + 1) bs)) (omega (arith, less, run)))
    ∙ ap (run_len c.get-node.result.depth) (sym (behind_node bs c.args.i seat block c.seat_of-seat.ensures.seat read c.seat_of-seat.ensures.inside))

-- behind the block of the node
behind : (c : goal.After-end_from-end) → c.args.i + 1 + run_len c.get-node.result.depth (drop (c.args.i + 1) (nodes_in c.args.self.now.blocks)) ≡ c.end_from-end.result
behind c =
    let bs = c.args.self.now.blocks in
    let seat = c.seat_of-seat.result in
    let block = c.index-first.result.now in
    let is = c.seat_of-seat.ensures.seat in
    let same : c.self.inside.blocks.items ≡ bs = ap (λ v. v.blocks) c.self.view_is in
    let there = read_of c.self.inside.blocks.items bs seat.block block same c.index-first.ensures in
    let read = as_read bs seat.block block is.within there in
    let rest = drop (seat.offset + 1) block in
    let size = length-drop (seat.offset + 1) block in
    let through : length rest ≤ c.deeper-deeper.result = search (rules, arith, size) in
    let run = c.deeper-deeper.ensures in
    let most = run_len-le c.get-node.result.depth rest in
    let whole = run_through c.get-node.result.depth rest (nodes_in (drop (seat.block + 1) bs)) (omega (arith, through, run)) in
    let is_behind = ap (run_len c.get-node.result.depth) (behind_node bs c.args.i seat block is read c.seat_of-seat.ensures.inside) in
    let next = (counts bs seat.block block is.within there).next in
    let before = is.before in
    let inside = c.seat_of-seat.ensures.inside in
    let length_read = ap length read in
    let end = c.end_from-end.ensures in
    omega (arith, size, through, run, most, whole, is_behind, next, before, inside, length_read, end)

pub overflow_sub-result : goal.overflow_sub-result
overflow_sub-result c = let is = behind c in search (rules, arith, is)

pub returns-clause-run : goal.returns-clause-run
returns-clause-run c = let is = behind c in search (rules, arith, is)

pub returns-then-seat-deeper-clause-node : goal.returns-then-seat-deeper-clause-node
returns-then-seat-deeper-clause-node c =
    node_at_seat c.self.inside.blocks.items c.args.self.now.blocks c.args.i c.seat_of-seat.result c.index-first.result.now c.get-node.result (ap (λ v. v.blocks) c.self.view_is) c.seat_of-seat.ensures.seat c.seat_of-seat.ensures.inside c.index-first.ensures c.get-node.ensures

pub returns-clause-node : goal.returns-clause-node
returns-clause-node c =
    node_at_seat c.self.inside.blocks.items c.args.self.now.blocks c.args.i c.seat_of-seat.result c.index-first.result.now c.get-node.result (ap (λ v. v.blocks) c.self.view_is) c.seat_of-seat.ensures.seat c.seat_of-seat.ensures.inside c.index-first.ensures c.get-node.ensures
