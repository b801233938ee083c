-- A block is passed, or the run ends in it.
use Rattle.std.proofs.Common.{◌≡◌, ◌≤◌, ◌<◌, ◌+◌, ◌-◌, length, take, drop, subst, ap, rules, arith, ◌∙◌}
use Rattle.maptree.specs.Blocks.{nodes_in, AreMinDepths}
use Rattle.maptree.specs.Nodes.{run_len}
use Rattle.maptree.proofs.Positions.{run_len-le}
use Rattle.maptree.proofs.InBlocks.{counts, run_block_on, run_block_ends, read_of}
use Rattle.maptree.proofs.Starts.{start_read}
use Rattle.maptree.proofs.MinDepths.{deeper_block, deeper_blocks}
use Rattle.maptree.proofs.blocks.Blocks.end_from.Goals as goal
use Rattle.maptree.proofs.blocks.Blocks.end_from.Goals.{then-get-depth+else-deeper-len, else-get-depth}

pub loop-k-init : goal.loop-k-init
loop-k-init c =
    let bs = c.args.self.now.blocks in
    let ls = c.self.inside.min_depths.min_depths in
    let same : c.self.inside.blocks.items ≡ bs = ap (λ v. v.blocks) c.self.view_is in
    let min_depths = subst (λ l. AreMinDepths l ls) same c.self.invariant.7 in
    let to = c.pass_above-first.result in
    let from = c.pass_above-first.ensures.from in
    let end : c.args.block + (to - c.args.block) ≡ to = omega (arith, from) in
    let within : to ≤ length bs = let count = min_depths.count in let upto = c.pass_above-first.ensures.within in omega (arith, count, upto) in
    let above = c.pass_above-first.ensures.above in
    deeper_blocks bs ls min_depths c.args.depth c.args.block (to - c.args.block) (omega (arith, end, within)) (λ k low less. above k low (omega (arith, less, end)))
    ∙ ap (λ k. length (nodes_in (take k bs)) + run_len c.args.depth (nodes_in (drop k bs))) end

pub overflow_add-result : goal.overflow_add-result
overflow_add-result c =
    let bs = c.args.self.now.blocks in
    let block = c.index-block.result.now in
    let same : c.self.inside.blocks.items ≡ bs = ap (λ v. v.blocks) c.self.view_is in
    let size = ap (λ l. length (nodes_in l)) same in
    let count = ap length same in
    let within : c.loop-k.k < length bs = search (rules, arith, count) in
    let upto = (counts bs c.loop-k.k block within (read_of c.self.inside.blocks.items bs c.loop-k.k block same c.index-block.ensures)).upto in
    let before = start_read c.self.inside.blocks.items bs c.self.inside.starts c.loop-k.k c.get-then-deeper-len.result same c.self.invariant.5 (search (rules, arith)) c.get-then-deeper-len.ensures in
    search (rules, arith, size, upto, before)

pub returns-then-deeper-len : goal.returns-then-deeper-len
returns-then-deeper-len c =
    let bs = c.args.self.now.blocks in
    let block = c.index-block.result.now in
    let same : c.self.inside.blocks.items ≡ bs = ap (λ v. v.blocks) c.self.view_is in
    let count = ap length same in
    let within : c.loop-k.k < length bs = search (rules, arith, count) in
    let read = read_of c.self.inside.blocks.items bs c.loop-k.k block same c.index-block.ensures in
    let less : c.deeper-deeper.result < length block = search (rules, arith) in
    let ends = run_block_ends c.args.depth bs c.loop-k.k c.deeper-deeper.result block within read c.deeper-deeper.ensures less in
    let before = start_read c.self.inside.blocks.items bs c.self.inside.starts c.loop-k.k c.get-then-deeper-len.result same c.self.invariant.5 (search (rules, arith)) c.get-then-deeper-len.ensures in
    let so_far = c.loop-k.invariant in
    omega (arith, ends, before, so_far)

pub loop-k-preserved : goal.loop-k-preserved
loop-k-preserved c =
    let bs = c.args.self.now.blocks in
    let k = c.loop-k.k in
    let same : c.self.inside.blocks.items ≡ bs = ap (λ v. v.blocks) c.self.view_is in
    let count = ap length same in
    let within : k < length bs = search (rules, arith, count) in
    let so_far = c.loop-k.invariant in
    let min_depths = subst (λ l. AreMinDepths l c.self.inside.min_depths.min_depths) same c.self.invariant.7 in
    elim c.if-get-depth.branch [
      | then-get-depth+else-deeper-len w ↦
          let block = w.index-block.result.now in
          let read = read_of c.self.inside.blocks.items bs k block same w.index-block.ensures in
          let all : length block ≤ w.deeper-deeper.result = search (rules, arith) in
          let on = run_block_on c.args.depth bs k w.deeper-deeper.result block within read w.deeper-deeper.ensures all in
          let next = (counts bs k block within read).next in
          let most = run_len-le c.args.depth block in
          let run = w.deeper-deeper.ensures in
          omega (arith, on, next, so_far, all, most, run)
      | else-get-depth w ↦
          let deep = subst (λ n. c.args.depth < n) c.get.ensures w.if-get-depth.false in
          let passed = deeper_block bs c.self.inside.min_depths.min_depths k min_depths within c.args.depth deep in
          so_far ∙ passed
    ]
