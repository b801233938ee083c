-- The place stands in a block, or in none so far.
use Rattle.std.proofs.Common.{◌≡◌, ◌<◌, ◌+◌, length, ap, rules, arith, ◌∙◌, sym, Some}
use Rattle.space.specs.Place.{same_place}
use Rattle.maptree.specs.Blocks.{nodes_in}
use Rattle.maptree.proofs.InBlocks.{counts, read_of, found_in_block, none_in_block, found_within}
use Rattle.maptree.proofs.Starts.{start_read}
use Rattle.maptree.proofs.blocks.Blocks.search.Goals as goal

pub overflow_add-result : goal.overflow_add-result
overflow_add-result c =
    let bs = c.args.self.now.blocks in
    let block = c.index.result.now in
    let same : c.self.inside.blocks.items ≡ bs = ap (λ v. v.blocks) c.self.view_is in
    let size = ap (λ l. length (nodes_in l)) same in
    let count = ap length same in
    let within : c.loop-k.k < length bs = search (rules, arith, count) in
    let upto = (counts bs c.loop-k.k block within (read_of c.self.inside.blocks.items bs c.loop-k.k block same c.index.ensures)).upto in
    let inside = found_within (λ n. same_place c.args.place n.place) block c.in-Some.offset (sym c.find.ensures ∙ c.in-Some.is) in
    let before = start_read c.self.inside.blocks.items bs c.self.inside.starts c.loop-k.k c.get.result same c.self.invariant.5 (search (rules, arith)) c.get.ensures in
    search (rules, arith, size, upto, inside, before)

pub returns-in-Some : goal.returns-in-Some
returns-in-Some c =
    let bs = c.args.self.now.blocks in
    let block = c.index.result.now in
    let same : c.self.inside.blocks.items ≡ bs = ap (λ v. v.blocks) c.self.view_is in
    let count = ap length same in
    let within : c.loop-k.k < length bs = search (rules, arith, count) in
    let found = found_in_block (λ n. same_place c.args.place n.place) bs c.loop-k.k block c.in-Some.offset within (read_of c.self.inside.blocks.items bs c.loop-k.k block same c.index.ensures)
    c.loop-k.invariant (sym c.find.ensures ∙ c.in-Some.is) in
    let before = start_read c.self.inside.blocks.items bs c.self.inside.starts c.loop-k.k c.get.result same c.self.invariant.5 (search (rules, arith)) c.get.ensures in
    ap (λ n. Some (n + c.in-Some.offset)) before ∙ sym found

pub loop-k-preserved : goal.loop-k-preserved
loop-k-preserved c =
    let bs = c.args.self.now.blocks in
    let block = c.index.result.now in
    let same : c.self.inside.blocks.items ≡ bs = ap (λ v. v.blocks) c.self.view_is in
    let count = ap length same in
    let within : c.loop-k.k < length bs = search (rules, arith, count) in
    none_in_block (λ n. same_place c.args.place n.place) bs c.loop-k.k block within (read_of c.self.inside.blocks.items bs c.loop-k.k block same c.index.ensures) c.loop-k.invariant (sym c.find.ensures ∙ search rules)
