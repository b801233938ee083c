-- One block has fewer nodes.
use Rattle.std.proofs.Common.{◌≡◌, ◌<◌, ◌-◌, [], length, get_or, set, take, drop, ap, rules, arith, ◌∙◌, ◌++◌, ◌+◌}
use Rattle.std.proofs.lemmas.List.{length-set, length-append, length-take-le, length-drop}
use Rattle.maptree.specs.Blocks.{nodes_in}
use Rattle.maptree.proofs.InBlocks.{read_of, as_read, counts}
use Rattle.maptree.proofs.Starts.{starts_set, has_nodes}
use Rattle.std.specs.List.{slice_index}
use Rattle.maptree.specs.Blocks.{AreStarts, is_least, is_most}
use Rattle.maptree.proofs.Depths.{least_append, least_take, least_drop, behind_removed}
use Rattle.maptree.proofs.Deepest.{most_removed}
use Rattle.maptree.proofs.MinDepths.{least_of_block, min_depths_kept}
use Rattle.maptree.proofs.BlockChanges.{count_set, cut_nodes}
use Rattle.maptree.proofs.blocks.Blocks.remove_in_block.Goals as goal

pub overflow_sub-self-2 : goal.overflow_sub-self-2
overflow_sub-self-2 c =
    let items = c.self.inside.blocks.items in
    let bs = c.args.self.now.blocks in
    let block = c.index_mut-removed.result.now in
    let same : items ≡ bs = ap (λ v. v.blocks) c.self.view_is in
    let in_bs = read_of items bs c.args.block block same c.index_mut-removed.ensures.value in
    let read = ap length (as_read bs c.args.block block c.requires.block in_bs) in
    let upto = (counts bs c.args.block block c.requires.block in_bs).upto in
    let size = ap (λ l. length (nodes_in l)) same in
    omega (arith, read, upto, size, c.self.invariant.0, c.requires.rising, c.requires.within)

-- before each later block stand the nodes of this one
pub subtract-requires-clause-has : goal.subtract-requires-clause-has
subtract-requires-clause-has c =
    let items = c.self.inside.blocks.items in
    let bs = c.args.self.now.blocks in
    let same : items ≡ bs = ap (λ v. v.blocks) c.self.view_is in
    let size = ap length same in
    let within_bs = c.requires.block in
    let there = ap (λ l. length (get_or l c.args.block [])) same in
    let in_block = c.requires.within in
    has_nodes items c.self.inside.starts c.args.block (c.args.to - c.args.from) c.self.invariant.5 (omega (arith, size, within_bs)) (omega (arith, there, in_block))

pub invariant_of-self : goal.invariant_of-self
invariant_of-self c =
    let items = c.self.inside.blocks.items in
    let bs = c.args.self.now.blocks in
    let block = c.index_mut-removed.result.now in
    let new = c.remove.new.self in
    let same : items ≡ bs = ap (λ v. v.blocks) c.self.view_is in
    let count = ap length same in
    let within_bs = c.requires.block in
    let within : c.args.block < length items = omega (arith, count, within_bs) in
    let read = ap length (as_read items c.args.block block within c.index_mut-removed.ensures.value) in
    let there = ap (λ l. length (get_or l c.args.block [])) same in
    let counted = count_set items c.args.block new within in
    let fewer = ap length c.remove.ensures ∙ length-append (take c.args.from block) (drop c.args.to block) in
    let in_block = c.requires.within in
    let rising = c.requires.rising in
    let front = length-take-le c.args.from block (omega (arith, read, there, in_block, rising)) in
    let back = length-drop c.args.to block in
    let size = length-set items c.args.block new in
    let inv = c.self.invariant in
    let starts = c.self.inside.starts in
    let next = c.subtract.new.self in
    let ls = c.self.inside.min_depths.min_depths in
    let a = slice_index ls c.args.block in
    let least = least_of_block items ls c.args.block block inv.7 within c.index_mut-removed.ensures.value in
    let same_min_depths = min_depths_kept items c.args.block new ls within inv.7
    (ap (is_least a) c.remove.ensures ∙ least_append a (take c.args.from block) (drop c.args.to block) (least_take a c.args.from block least) (least_drop a c.args.to block least)) in
    let same_starts : AreStarts (set items c.args.block new) next = starts_set items c.args.block new starts next within inv.5 c.subtract.ensures.count c.subtract.ensures.upto
    (λ j behind less. let changed = c.subtract.ensures.behind j behind less in omega (arith, changed, read, fewer, front, back, in_block, rising, there)) in (
      omega (arith, inv.0, counted, read, there, fewer, front, back, in_block, rising),
      omega (arith, inv.1, size),
      inv.2,
      omega (arith, inv.3, size),
      omega (arith, inv.4),
      same_starts,
      search (rules, arith, size, inv.6),
      same_min_depths,
      search (rules, arith, size, inv.8),
      ap (λ b. is_least c.self.inside.behind (drop 1 (nodes_in (set items c.args.block b)))) (c.remove.ensures ∙ ap (λ b. take c.args.from b ++ drop c.args.to b) (as_read items c.args.block block within c.index_mut-removed.ensures.value))
          ∙ ap (λ ns. is_least c.self.inside.behind (drop 1 ns)) (cut_nodes items c.args.block c.args.from c.args.to within rising (omega (arith, there, in_block)))
          ∙ behind_removed c.self.inside.behind (length (nodes_in (take c.args.block items)) + c.args.from) (length (nodes_in (take c.args.block items)) + c.args.to) (nodes_in items) (omega (arith, rising)) inv.9,
      ap (λ b. is_most c.self.inside.deepest (nodes_in (set items c.args.block b))) (c.remove.ensures ∙ ap (λ b. take c.args.from b ++ drop c.args.to b) (as_read items c.args.block block within c.index_mut-removed.ensures.value))
          ∙ ap (is_most c.self.inside.deepest) (cut_nodes items c.args.block c.args.from c.args.to within rising (omega (arith, there, in_block)))
          ∙ most_removed c.self.inside.deepest (length (nodes_in (take c.args.block items)) + c.args.from) (length (nodes_in (take c.args.block items)) + c.args.to) (nodes_in items) inv.10,
    )
