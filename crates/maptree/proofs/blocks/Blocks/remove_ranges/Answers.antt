-- One range more is out.
use Rattle.std.proofs.Common.{get_or, rules}
use Rattle.maptree.specs.Blocks.{nodes_in}
use Rattle.maptree.proofs.Parts.{none_out, next_out, range_read}
use Rattle.maptree.proofs.blocks.Blocks.remove_ranges.Goals as goal

pub loop-range-init : goal.loop-range-init
loop-range-init c = record { out = none_out (nodes_in c.args.self.now.blocks) c.args.ranges.now c.requires; room = search rules }

pub remove-requires-clause-within : goal.remove-requires-clause-within
remove-requires-clause-within c =
    let r = get_or c.args.ranges.now c.loop-range.range-index (record { start = 0; end = 0 }) in
    (next_out (nodes_in c.args.self.now.blocks) c.args.ranges.now c.loop-range.range-index c.loop-range.gone (nodes_in c.loop-range.self.blocks) r c.loop-range-test.true (range_read c.args.ranges.now c.loop-range.range-index (record { start = 0; end = 0 }) c.loop-range-test.true) c.loop-range.invariant.out).within

pub loop-range-preserved : goal.loop-range-preserved
loop-range-preserved c =
    let r = get_or c.args.ranges.now c.loop-range.range-index (record { start = 0; end = 0 }) in
    record {
      out = (next_out (nodes_in c.args.self.now.blocks) c.args.ranges.now c.loop-range.range-index c.loop-range.gone (nodes_in c.loop-range.self.blocks) r c.loop-range-test.true (range_read c.args.ranges.now c.loop-range.range-index (record { start = 0; end = 0 }) c.loop-range-test.true) c.loop-range.invariant.out).more
          (nodes_in c.remove.new.self.blocks) c.remove.ensures.nodes;
      room = search rules;
    }
