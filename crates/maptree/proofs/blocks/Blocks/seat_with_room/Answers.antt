-- In a block that is not full, or in one of two halves.
use Rattle.std.proofs.Common.{◌≡◌, ◌<◌, ◌≤◌, ◌+◌, ◌-◌, ℕ, [], length, get_or, ap, rules, arith, ◌∙◌, sym, subst, List}
use Rattle.space.specs.declared.node.Node.{Node}
use Rattle.maptree.specs.Blocks.{nodes_in, IsSeat}
use Rattle.maptree.proofs.InBlocks.{read_of, as_read}
use Rattle.maptree.proofs.BlockChanges.{split_nodes, first_half, second_half}
use Rattle.maptree.proofs.blocks.Blocks.seat_with_room.Goals as goal

-- the block of the seat is full
full : (bs items : List (List Node)) (k : ℕ) (b : List Node) (len : ℕ) → items ≡ bs → k < length bs → b ≡ get_or items k b → len ≡ length b → len ≤ 128 → 128 ≤ len → length (get_or bs k []) ≡ 128
full bs items k b len same within is size low high = let read = ap length (as_read bs k b within (read_of items bs k b same is)) in omega (arith, read, size, low, high)

pub split-requires-clause-at : goal.split-requires-clause-at
split-requires-clause-at c =
    let items = c.self.inside.blocks.items in
    let bs = c.args.self.now.blocks in
    let seat = c.seat_for_one-seat.result in
    let block = c.index.result.now in
    let within = c.seat_for_one-seat.ensures.within in
    let same : items ≡ bs = ap (λ v. v.blocks) c.self.view_is in
    let read = ap length (as_read bs seat.block block within (read_of items bs seat.block block same c.index.ensures)) in
    search (rules, arith, read)

pub returns-then-len-lt-BLOCK_SIZE-clause-few : goal.returns-then-len-lt-BLOCK_SIZE-clause-few
returns-then-len-lt-BLOCK_SIZE-clause-few c =
    let items = c.self.inside.blocks.items in
    let bs = c.args.self.now.blocks in
    let seat = c.seat_for_one-seat.result in
    let block = c.index.result.now in
    let within = c.seat_for_one-seat.ensures.within in
    let same : items ≡ bs = ap (λ v. v.blocks) c.self.view_is in
    let read = ap length (as_read bs seat.block block within (read_of items bs seat.block block same c.index.ensures)) in
    let there = ap (λ l. length (get_or l seat.block [])) same in
    search (rules, arith, read, there)

pub returns-then-seat-front-clause-nodes : goal.returns-then-seat-front-clause-nodes
returns-then-seat-front-clause-nodes c =
    ap nodes_in c.split.ensures.blocks ∙ split_nodes c.args.self.now.blocks c.seat_for_one-seat.result.block c.front_of_split-front.result c.seat_for_one-seat.ensures.within

pub returns-then-seat-front-clause-seat : goal.returns-then-seat-front-clause-seat
returns-then-seat-front-clause-seat c =
    subst (λ bs. IsSeat bs c.args.i c.seat_for_one-seat.result) (sym c.split.ensures.blocks)
    (first_half c.args.self.now.blocks c.seat_for_one-seat.result.block c.front_of_split-front.result c.args.i c.seat_for_one-seat.result.offset c.front_of_split-front.ensures.some c.front_of_split-front.ensures.less c.seat_for_one-seat.ensures (full c.args.self.now.blocks c.self.inside.blocks.items c.seat_for_one-seat.result.block c.index.result.now c.len.result (ap (λ v. v.blocks) c.self.view_is) c.seat_for_one-seat.ensures.within c.index.ensures c.len.ensures.len c.len.ensures.most c.if-len-lt-BLOCK_SIZE.false) c.if-seat-front.true).0

pub returns-then-seat-front-clause-few : goal.returns-then-seat-front-clause-few
returns-then-seat-front-clause-few c =
    subst (λ bs. length (get_or bs c.seat_for_one-seat.result.block []) < 128) (sym c.split.ensures.blocks)
    (first_half c.args.self.now.blocks c.seat_for_one-seat.result.block c.front_of_split-front.result c.args.i c.seat_for_one-seat.result.offset c.front_of_split-front.ensures.some c.front_of_split-front.ensures.less c.seat_for_one-seat.ensures (full c.args.self.now.blocks c.self.inside.blocks.items c.seat_for_one-seat.result.block c.index.result.now c.len.result (ap (λ v. v.blocks) c.self.view_is) c.seat_for_one-seat.ensures.within c.index.ensures c.len.ensures.len c.len.ensures.most c.if-len-lt-BLOCK_SIZE.false) c.if-seat-front.true).1

pub returns-clause-nodes : goal.returns-clause-nodes
returns-clause-nodes c =
    ap nodes_in c.split.ensures.blocks ∙ split_nodes c.args.self.now.blocks c.seat_for_one-seat.result.block c.front_of_split-front.result c.seat_for_one-seat.ensures.within

pub returns-clause-seat : goal.returns-clause-seat
returns-clause-seat c =
    subst (λ bs. IsSeat bs c.args.i (record { block = c.seat_for_one-seat.result.block + 1; offset = c.seat_for_one-seat.result.offset - c.front_of_split-front.result })) (sym c.split.ensures.blocks)
    (second_half c.args.self.now.blocks c.seat_for_one-seat.result.block c.front_of_split-front.result c.args.i c.seat_for_one-seat.result.offset c.front_of_split-front.ensures.some c.front_of_split-front.ensures.less c.seat_for_one-seat.ensures (full c.args.self.now.blocks c.self.inside.blocks.items c.seat_for_one-seat.result.block c.index.result.now c.len.result (ap (λ v. v.blocks) c.self.view_is) c.seat_for_one-seat.ensures.within c.index.ensures c.len.ensures.len c.len.ensures.most c.if-len-lt-BLOCK_SIZE.false) c.if-seat-front.false).0

pub returns-clause-few : goal.returns-clause-few
returns-clause-few c =
    subst (λ bs. length (get_or bs (c.seat_for_one-seat.result.block + 1) []) < 128) (sym c.split.ensures.blocks)
    (second_half c.args.self.now.blocks c.seat_for_one-seat.result.block c.front_of_split-front.result c.args.i c.seat_for_one-seat.result.offset c.front_of_split-front.ensures.some c.front_of_split-front.ensures.less c.seat_for_one-seat.ensures (full c.args.self.now.blocks c.self.inside.blocks.items c.seat_for_one-seat.result.block c.index.result.now c.len.result (ap (λ v. v.blocks) c.self.view_is) c.seat_for_one-seat.ensures.within c.index.ensures c.len.ensures.len c.len.ensures.most c.if-len-lt-BLOCK_SIZE.false) c.if-seat-front.false).1

pub returns-then-seat-front-clause-fits : goal.returns-then-seat-front-clause-fits
returns-then-seat-front-clause-fits c =
    let same = ap length (ap nodes_in c.split.ensures.blocks ∙ split_nodes c.args.self.now.blocks c.seat_for_one-seat.result.block c.front_of_split-front.result c.seat_for_one-seat.ensures.within) in
    let size = ap (λ v. length (nodes_in v.blocks)) c.self.view_is in
    let room = ap (λ v. v.room) c.self.view_is in
    let inv = c.self.invariant in
    omega (arith, same, size, room, inv.0, inv.4)

pub returns-clause-fits : goal.returns-clause-fits
returns-clause-fits c =
    let same = ap length (ap nodes_in c.split.ensures.blocks ∙ split_nodes c.args.self.now.blocks c.seat_for_one-seat.result.block c.front_of_split-front.result c.seat_for_one-seat.ensures.within) in
    let size = ap (λ v. length (nodes_in v.blocks)) c.self.view_is in
    let room = ap (λ v. v.room) c.self.view_is in
    let inv = c.self.invariant in
    omega (arith, same, size, room, inv.0, inv.4)
