-- Each number moves on by one.
use Rattle.std.proofs.Common.{◌/◌, ◌<◌, length, arith}
use Rattle.maptree.specs.Blocks.{grouped}
use Rattle.maptree.proofs.Shifting.{IsGroupTaken, group_begins, group_goes_on, group_low, step}
use Rattle.maptree.proofs.block_starts.shift.Goals.{then-at-eq0, else-at-eq0}
use Rattle.maptree.proofs.block_starts.shift.Goals as goal

pub overflow_sub-inside : goal.overflow_sub-inside
overflow_sub-inside c =
    let old = grouped c.args.groups.now c.args.inside.now in
    let now = grouped c.loop-at.groups c.loop-at.inside in
    let at = c.loop-at.at in
    let some : at / 64 < length c.loop-at.groups = omega (arith, c.requires.grouped.enough, c.loop-at-test.true, c.loop-at.invariant.groups_count) in
    let taken : IsGroupTaken now c.if-at-eq0.groups at c.loop-at.base c.if-at-eq0.base c.loop-at.carried =
    elim c.if-at-eq0.branch [
      | then-at-eq0 w ↦ group_begins now c.if-at-eq0.groups at c.loop-at.base c.if-at-eq0.base c.loop-at.carried w.groups-is w.base-is w.if-at-eq0.true some
      | else-at-eq0 w ↦ group_goes_on now c.if-at-eq0.groups at c.loop-at.base c.if-at-eq0.base c.loop-at.carried w.groups-is w.base-is w.if-at-eq0.false
    ] in
    group_low old now c.args.block c.args.before at c.loop-at.base c.loop-at.carried c.requires.grouped c.loop-at.invariant c.loop-at-test.true c.requires.above c.requires.below c.requires.rising c.if-at-eq0.groups c.if-at-eq0.base taken

pub loop-at-preserved : goal.loop-at-preserved
loop-at-preserved c =
    let old = grouped c.args.groups.now c.args.inside.now in
    let now = grouped c.loop-at.groups c.loop-at.inside in
    let at = c.loop-at.at in
    let some : at / 64 < length c.loop-at.groups = omega (arith, c.requires.grouped.enough, c.loop-at-test.true, c.loop-at.invariant.groups_count) in
    let taken : IsGroupTaken now c.if-at-eq0.groups at c.loop-at.base c.if-at-eq0.base c.loop-at.carried =
    elim c.if-at-eq0.branch [
      | then-at-eq0 w ↦ group_begins now c.if-at-eq0.groups at c.loop-at.base c.if-at-eq0.base c.loop-at.carried w.groups-is w.base-is w.if-at-eq0.true some
      | else-at-eq0 w ↦ group_goes_on now c.if-at-eq0.groups at c.loop-at.base c.if-at-eq0.base c.loop-at.carried w.groups-is w.base-is w.if-at-eq0.false
    ] in
    step old now c.args.block c.args.before at c.loop-at.base c.loop-at.carried c.requires.grouped c.loop-at.invariant c.loop-at-test.true c.requires.above c.requires.below c.requires.rising c.if-at-eq0.groups c.if-at-eq0.base taken
