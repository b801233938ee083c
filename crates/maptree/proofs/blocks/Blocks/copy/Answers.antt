-- Some more nodes.
use Rattle.std.proofs.Common.{◌≡◌, ◌≤◌, ◌+◌, ◌-◌, ◌++◌, [], length, get_or, take, drop, ap, rules, arith, ◌∙◌, sym}
use Rattle.std.proofs.lemmas.List.{drop-drop, length-drop, length-take-le}
use Rattle.maptree.specs.Blocks.{nodes_in}
use Rattle.maptree.proofs.InBlocks.{read_of, as_read}
use Rattle.maptree.proofs.BlockChanges.{some_behind, take_on}
use Rattle.maptree.proofs.blocks.Blocks.copy.Goals as goal

pub loop-self-preserved : goal.loop-self-preserved
loop-self-preserved c =
    let bs = c.args.self.now.blocks in
    let all = nodes_in bs in
    let seat = c.seat_of-block.result in
    let is = c.seat_of-block.ensures.seat in
    let block = c.index.result.now in
    let old = c.loop-self.nodes.items in
    let now = c.extend_from_slice.new.self.items in
    let inv = c.loop-self.invariant in
    let same : c.self.inside.blocks.items ≡ bs = ap (λ v. v.blocks) c.self.view_is in
    let read = as_read bs seat.block block is.within (read_of c.self.inside.blocks.items bs seat.block block same c.index.ensures) in
    let there = c.nodes-there.result.now in
    let is_there : there ≡ get_or bs seat.block [] = c.nodes-there.ensures ∙ read in
    let size = ap length is_there in
    let end = c.min-end.result in
    let more = end - seat.offset in
    let inside = c.seat_of-block.ensures.inside in
    let before = is.before in
    let high : seat.offset ≤ end = search (rules, arith, size, inside) in
    let low : end ≤ length there = search (rules, arith) in
    let least : end ≤ seat.offset + (c.args.to - (c.args.from + c.len-in-loop-self.result)) = search (rules, arith) in
    let count : c.len-in-loop-self.result ≡ length old = search (rules, arith) in
    let behind = length-drop seat.offset (get_or bs seat.block []) in
    let at : length (nodes_in (take seat.block bs)) + seat.offset ≡ c.args.from + length old = omega (arith, before, count) in
    let items : now ≡ old ++ take more (drop seat.offset there) = c.in_ok-extend_from_slice.ensures.items in
    let some : take more (drop seat.offset there) ≡ take more (drop (length old) (drop c.args.from all)) =
    ap (λ b. take more (drop seat.offset b)) is_there
    ∙ sym (some_behind bs seat.block seat.offset more is.within is.upto (omega (arith, behind, low, size)))
    ∙ ap (λ n. take more (drop n all)) at ∙ ap (take more) (sym (drop-drop (length old) c.args.from all)) in
    let whole : now ≡ take (length old + more) (drop c.args.from all) =
    items ∙ ap (λ x. old ++ x) some ∙ ap (λ x. x ++ take more (drop (length old) (drop c.args.from all))) inv.nodes ∙ take_on (length old) more (drop c.args.from all) in
    let left = length-drop c.args.from all in
    let rising = c.requires.rising in
    let within = c.requires.within in
    let test = c.loop-self-test.true in
    let grown : length now ≡ length old + more = ap length whole ∙ length-take-le (length old + more) (drop c.args.from all) (search (rules, arith, left, rising, within, least, high, count)) in
    record { nodes = whole ∙ ap (λ n. take n (drop c.args.from all)) (sym grown); upto = search (rules, arith, grown, least, high, count) }
