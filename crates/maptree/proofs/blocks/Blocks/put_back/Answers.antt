-- One part more is in its gap.
use Rattle.std.proofs.Common.{◌-◌, ◌++◌, length, take, drop, get_or, ap, arith, ◌∙◌}
use Rattle.maptree.specs.Blocks.{nodes_in}
use Rattle.maptree.proofs.Parts.{next_back}
use Rattle.maptree.proofs.blocks.Blocks.put_back.Goals as goal

pub insert_all-requires-clause-within : goal.insert_all-requires-clause-within
insert_all-requires-clause-within c =
    (next_back (nodes_in c.args.self.now.blocks) c.args.gaps.now c.args.parts.now c.loop-k.k (nodes_in c.loop-k.self.blocks) c.index-parts-k.result c.requires.gaps c.requires.each_part c.loop-k-test.true c.loop-k.auto.k c.loop-k.invariant.nodes).within

pub insert_all-requires-clause-room : goal.insert_all-requires-clause-room
insert_all-requires-clause-room c =
    let next = next_back (nodes_in c.args.self.now.blocks) c.args.gaps.now c.args.parts.now c.loop-k.k (nodes_in c.loop-k.self.blocks) c.index-parts-k.result c.requires.gaps c.requires.each_part c.loop-k-test.true c.loop-k.auto.k c.loop-k.invariant.nodes in
    let upto = next.upto in
    let room = c.loop-k.invariant.room in
    let all = c.requires.room in
    let size = ap length c.deref.ensures.value in
    omega (arith, upto, room, all, size)

pub loop-k-preserved : goal.loop-k-preserved
loop-k-preserved c =
    let now = nodes_in c.loop-k.self.blocks in
    let next = next_back (nodes_in c.args.self.now.blocks) c.args.gaps.now c.args.parts.now c.loop-k.k now c.index-parts-k.result c.requires.gaps c.requires.each_part c.loop-k-test.true c.loop-k.auto.k c.loop-k.invariant.nodes in
    let count = next.count in
    let room = c.loop-k.invariant.room in
    let less = c.insert_all.ensures.room in
    let size = ap length c.deref.ensures.value in
    let gap = get_or c.args.gaps.now (c.loop-k.k - 1) 0 in
    record {
      nodes = next.nodes (nodes_in c.insert_all.new.self.blocks) (c.insert_all.ensures.nodes ∙ ap (λ l. take gap now ++ (l ++ drop gap now)) c.deref.ensures.value);
      room = omega (arith, count, room, less, size);
    }
