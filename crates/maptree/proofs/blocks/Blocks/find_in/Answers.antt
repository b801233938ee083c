-- A place that stands in a block stands there alone.
use Rattle.std.proofs.Common.{◌≡◌, ◌<◌, ◌+◌, length, ap, rules, arith, ◌∙◌, sym, Some}
use Rattle.maptree.specs.Blocks.{nodes_in}
use Rattle.maptree.proofs.InBlocks.{read_of, counts}
use Rattle.space.proofs.Lists.{blank}
use Rattle.maptree.proofs.Starts.{start_read}
use Rattle.maptree.proofs.Standing.{stands_in_block}
use Rattle.maptree.proofs.blocks.Blocks.find_in.Goals as goal

pub overflow_add-result : goal.overflow_add-result
overflow_add-result c =
    let bs = c.args.self.now.blocks in
    let block = c.index.result.now in
    let same : c.self.inside.blocks.items ≡ bs = ap (λ v. v.blocks) c.self.view_is in
    let size = ap (λ l. length (nodes_in l)) same in
    let count = ap length same in
    let within : c.args.block < length bs = search (rules, arith, count) in
    let upto = (counts bs c.args.block block within (read_of c.self.inside.blocks.items bs c.args.block block same c.index.ensures)).upto in
    let inside = c.in_ok-offset.ensures.within in
    let before = start_read c.self.inside.blocks.items bs c.self.inside.starts c.args.block c.get.result same c.self.invariant.5 (search (rules, arith)) c.get.ensures in
    search (rules, arith, size, upto, inside, before)

pub returns : goal.returns
returns c =
    let bs = c.args.self.now.blocks in
    let block = c.index.result.now in
    let same : c.self.inside.blocks.items ≡ bs = ap (λ v. v.blocks) c.self.view_is in
    let count = ap length same in
    let within : c.args.block < length bs = search (rules, arith, count) in
    let before = start_read c.self.inside.blocks.items bs c.self.inside.starts c.args.block c.get.result same c.self.invariant.5 (search (rules, arith)) c.get.ensures in
    stands_in_block bs c.args.block block c.args.place c.in_ok-offset.offset c.requires within (read_of c.self.inside.blocks.items bs c.args.block block same c.index.ensures) c.in_ok-offset.ensures.within (c.in_ok-offset.ensures.there blank)
    ∙ sym (ap (λ n. Some (n + c.in_ok-offset.offset)) before)
