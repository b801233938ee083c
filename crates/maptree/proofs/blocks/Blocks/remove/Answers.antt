-- Some more are out.
use Rattle.std.proofs.Common.{◌≡◌, ◌≤◌, ◌+◌, ◌++◌, [], length, get_or, take, drop, ap, rules, arith, ◌∙◌}
use Rattle.maptree.specs.Blocks.{nodes_in}
use Rattle.maptree.proofs.InBlocks.{read_of, as_read}
use Rattle.maptree.proofs.BlockChanges.{cut_nodes, removed_more}
use Rattle.maptree.proofs.blocks.Blocks.remove.Goals as goal

pub loop-left-preserved : goal.loop-left-preserved
loop-left-preserved c =
    let all = nodes_in c.args.self.now.blocks in
    let bs = c.loop-left.self.blocks in
    let seat = c.seat_of-block.result in
    let is = c.seat_of-block.ensures.seat in
    let taken = c.min-taken.result in
    let block = c.index.result.now in
    let same : c.self.inside.blocks.items ≡ bs = ap (λ v. v.blocks) c.self.view_is in
    let read = ap length (as_read bs seat.block block is.within (read_of c.self.inside.blocks.items bs seat.block block same c.index.ensures)) in
    let less : taken ≤ c.loop-left.left = search (rules, arith) in
    let inside : seat.offset + taken ≤ length (get_or bs seat.block []) = search (rules, arith, read) in
    let before = is.before in
    let next : length (nodes_in (take seat.block bs)) + (seat.offset + taken) ≡ c.args.from + taken = omega (arith, before) in
    let inv = c.loop-left.invariant in
    record {
      nodes = ap nodes_in c.remove_in_block.ensures.blocks
          ∙ cut_nodes bs seat.block seat.offset (seat.offset + taken) is.within (omega arith) inside
          ∙ ap (λ n. take n (nodes_in bs) ++ drop (length (nodes_in (take seat.block bs)) + (seat.offset + taken)) (nodes_in bs)) before
          ∙ ap (λ n. take c.args.from (nodes_in bs) ++ drop n (nodes_in bs)) next
          ∙ removed_more all c.args.from c.args.to c.loop-left.left c.requires.rising c.requires.within inv.left (nodes_in bs) taken inv.nodes less;
      left = search (rules, arith);
      room = search rules;
    }
