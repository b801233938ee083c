-- All nodes of the block, which stand behind those of the blocks before it.
use Rattle.std.proofs.Common.{◌≡◌, ◌+◌, ◌-◌, [], length, get_or, take, drop, ap, sym, ◌∙◌, arith}
use Rattle.std.proofs.lemmas.List.{take_all}
use Rattle.maptree.specs.Blocks.{nodes_in}
use Rattle.maptree.proofs.InBlocks.{read_of, as_read}
use Rattle.maptree.proofs.BlockChanges.{some_behind}
use Rattle.maptree.proofs.blocks.Blocks.near.Goals as goal

pub returns-clause-nodes : goal.returns-clause-nodes
returns-clause-nodes c =
    let bs = c.args.self.now.blocks in
    let all = nodes_in bs in
    let seat = c.seat_of-seat.result in
    let is = c.seat_of-seat.ensures.seat in
    let same : c.self.inside.blocks.items ≡ bs = ap (λ v. v.blocks) c.self.view_is in
    let read = as_read bs seat.block c.index.result.now is.within (read_of c.self.inside.blocks.items bs seat.block c.index.result.now same c.index.ensures) in
    let there : c.nodes.result.now ≡ get_or bs seat.block [] = c.nodes.ensures ∙ read in
    let size = length c.nodes.result.now in
    let count = ap length there in
    let before = is.before in
    let at : length (nodes_in (take seat.block bs)) + 0 ≡ c.args.i - seat.offset = omega (arith, before) in
    there ∙ sym (take_all size (get_or bs seat.block []) (omega (arith, count)))
    ∙ sym (some_behind bs seat.block 0 size is.within (omega arith) (omega (arith, count)))
    ∙ ap (λ n. take size (drop n all)) at
