-- The parts go into their gaps.
use Rattle.std.proofs.Common.{rules, arith, ap, ◌∙◌, ◌++◌, length, get_or}
use Rattle.std.specs.List.{slice_range}
use Rattle.maptree.proofs.Cuttings.{gaps_within, next_gap, rejoined_part}
use Rattle.maptree.proofs.cutting.joined.Goals as goal

pub offset_bounds-left-from : goal.offset_bounds-left-from
offset_bounds-left-from c =
    let most = gaps_within c.loop-i.from _ _ c.loop-i.invariant.gaps_are in
    search (rules, arith, most)

pub slice_bounds-extend_from_slice-end : goal.slice_bounds-extend_from_slice-end
slice_bounds-extend_from_slice-end c =
    let next = next_gap c.loop-i.from c.loop-i.i c.args.gaps.now (length c.args.left.now) 0 c.loop-i.invariant.gaps_are (omega (arith, c.requires.each_part, c.loop-i-test.true)) in
    let most = gaps_within _ _ _ next.1 in
    search (rules, arith, most)

pub loop-i-preserved : goal.loop-i-preserved
loop-i-preserved c =
    let part = c.index-parts-i.result in
    rejoined_part c.args.left.now c.args.gaps.now c.args.parts.now c.loop-i.i c.loop-i.from 0 part c.loop-i.nodes _ c.args.room c.requires.each_part c.loop-i-test.true c.loop-i.invariant
    (c.in_ok-extend_from_slice-2.ensures.items ∙ ap (λ xs. xs ++ c.deref.result.now) c.in_ok-extend_from_slice.ensures.items
    ∙ ap (λ xs. (c.loop-i.nodes.items ++ slice_range c.args.left.now c.loop-i.from (get_or c.args.gaps.now c.loop-i.i 0)) ++ xs) c.deref.ensures.value)
    (omega (arith, c.loop-i.invariant.capacity, c.extend_from_slice.ensures.capacity, c.extend_from_slice-in-loop-i.ensures.capacity))
