-- In the block of the seat, or before it.
use Rattle.std.proofs.Common.{◌≡◌, true, [], drop, subst, length, take, get_or, ap, sym, ◌∙◌, rules, arith, Some, None}
use Rattle.std.proofs.lemmas.List.{length-take}
use Rattle.std.proofs.Math.Nat.{min-le_right}
use Rattle.maptree.specs.Nodes.{last_less}
use Rattle.maptree.specs.Blocks.{nodes_in, is_least}
use Rattle.maptree.proofs.Origin.{none_above_root, first_above}
use Rattle.maptree.proofs.Positions.{depth_of_read}
use Rattle.maptree.proofs.Runs.{depth_of}
use Rattle.maptree.proofs.LastLess.{later}
use Rattle.maptree.proofs.AtSeat.{node_at_seat, origin_as_read}
use Rattle.maptree.proofs.InBlocks.{as_read, read_of, last_seat, last_within}
use Rattle.maptree.proofs.blocks.Blocks.origin_seat.Goals as goal

pub returns-in-Some-clause-inside : goal.returns-in-Some-clause-inside
returns-in-Some-clause-inside c =
    let bs = c.args.self.now.blocks in
    let seat = c.seat_of-seat.result in
    let block = c.index-block.result.now in
    let is = c.seat_of-seat.ensures.seat in
    let same : c.self.inside.blocks.items ≡ bs = ap (λ v. v.blocks) c.self.view_is in
    let read = ap length (as_read bs seat.block block is.within (read_of c.self.inside.blocks.items bs seat.block block same c.index-block.ensures)) in
    let inside = last_within c.get-node.result.depth (take seat.offset block) c.in-Some.offset (sym c.last_above_here.ensures ∙ c.in-Some.is) in
    let size = length-take seat.offset block in
    let low = min-le_right seat.offset (length block) in
    record { within = is.within; inside = omega (arith, inside, size, low, read) }

pub returns-in-Some-clause-origin : goal.returns-in-Some-clause-origin
returns-in-Some-clause-origin c d =
    let bs = c.args.self.now.blocks in
    let seat = c.seat_of-seat.result in
    let block = c.index-block.result.now in
    let is = c.seat_of-seat.ensures.seat in
    let depth = c.get-node.result.depth in
    let same : c.self.inside.blocks.items ≡ bs = ap (λ v. v.blocks) c.self.view_is in
    let read = as_read bs seat.block block is.within (read_of c.self.inside.blocks.items bs seat.block block same c.index-block.ensures) in
    let front = nodes_in (take seat.block bs) in
    let here : last_less depth (take seat.offset (get_or bs seat.block [])) ≡ Some c.in-Some.offset = ap (λ b. last_less depth (take seat.offset b)) (sym read) ∙ sym c.last_above_here.ensures ∙ c.in-Some.is in
    sym (last_seat depth bs seat.block seat.offset c.args.i is.within is.upto is.before ∙ ap (λ o. later (length front) o (last_less depth front)) here) ∙ origin_as_read (nodes_in bs) c.args.i c.get-node.result d c.requires.within (node_at_seat c.self.inside.blocks.items bs c.args.i seat c.index-block.result.now c.get-node.result same is c.seat_of-seat.ensures.inside c.index-block.ensures c.get-node.ensures)

pub returns-clause-origin : goal.returns-clause-origin
returns-clause-origin c d =
    let bs = c.args.self.now.blocks in
    let seat = c.seat_of-seat.result in
    let block = c.index-block.result.now in
    let is = c.seat_of-seat.ensures.seat in
    let depth = c.get-node.result.depth in
    let same : c.self.inside.blocks.items ≡ bs = ap (λ v. v.blocks) c.self.view_is in
    let read = as_read bs seat.block block is.within (read_of c.self.inside.blocks.items bs seat.block block same c.index-block.ensures) in
    let front = nodes_in (take seat.block bs) in
    let here : last_less depth (take seat.offset (get_or bs seat.block [])) ≡ None = ap (λ b. last_less depth (take seat.offset b)) (sym read) ∙ sym c.last_above_here.ensures ∙ search rules in
    c.last_before.ensures.last ∙ sym (last_seat depth bs seat.block seat.offset c.args.i is.within is.upto is.before ∙ ap (λ o. later (length front) o (last_less depth front)) here) ∙ origin_as_read (nodes_in bs) c.args.i c.get-node.result d c.requires.within (node_at_seat c.self.inside.blocks.items bs c.args.i seat c.index-block.result.now c.get-node.result same is c.seat_of-seat.ensures.inside c.index-block.ensures c.get-node.ensures)

-- a root derives from none
pub returns-then-node-eq0-clause-origin : goal.returns-then-node-eq0-clause-origin
returns-then-node-eq0-clause-origin c d =
    let bs = c.args.self.now.blocks in
    let same : c.self.inside.blocks.items ≡ bs = ap (λ v. v.blocks) c.self.view_is in
    sym (none_above_root (take c.args.i (nodes_in bs)) c.get-node.result.depth (search rules)) ∙ origin_as_read (nodes_in bs) c.args.i c.get-node.result d c.requires.within
    (node_at_seat c.self.inside.blocks.items bs c.args.i c.seat_of-seat.result c.index-block.result.now c.get-node.result same c.seat_of-seat.ensures.seat c.seat_of-seat.ensures.inside c.index-block.ensures c.get-node.ensures)

pub returns-else-node-eq0-clause-origin : goal.returns-else-node-eq0-clause-origin
returns-else-node-eq0-clause-origin c d =
    let bs = c.args.self.now.blocks in
    let ns = nodes_in bs in
    let same : c.self.inside.blocks.items ≡ bs = ap (λ v. v.blocks) c.self.view_is in
    let behind : is_least c.self.inside.behind (drop 1 ns) ≡ true = subst (λ l. is_least c.self.inside.behind (drop 1 (nodes_in l)) ≡ true) same c.self.invariant.9 in
    let node = node_at_seat c.self.inside.blocks.items bs c.args.i c.seat_of-seat.result c.index-block.result.now c.get-node.result same c.seat_of-seat.ensures.seat c.seat_of-seat.ensures.inside c.index-block.ensures c.get-node.ensures in
    let depth : c.get-node.result.depth ≡ depth_of ns c.args.i = ap (λ n. n.depth) node ∙ sym (depth_of_read ns c.args.i c.get-node.result c.requires.within) in
    ap Some c.seat_of.ensures.seat.before ∙ sym (first_above ns c.requires.forest c.args.i c.get-node.result.depth c.self.inside.behind c.requires.within depth (search (rules, arith)) (search (rules, arith)) behind)
    ∙ origin_as_read ns c.args.i c.get-node.result d c.requires.within node

pub returns-else-node-eq0-clause-inside : goal.returns-else-node-eq0-clause-inside
returns-else-node-eq0-clause-inside c = record { within = c.seat_of.ensures.seat.within; inside = c.seat_of.ensures.inside }
