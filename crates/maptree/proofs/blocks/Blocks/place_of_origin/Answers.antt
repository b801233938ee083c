-- The node at the seat is the one at the position.
use Rattle.std.proofs.Common.{◌≡◌, ◌<◌, ◌+◌, [], length, take, get_or, Some, option_map, ap, sym, ◌∙◌, arith}
use Rattle.std.proofs.lemmas.List.{get_or_default}
use Rattle.maptree.specs.Blocks.{nodes_in}
use Rattle.maptree.proofs.InBlocks.{as_read, at_seat, read_of}
use Rattle.maptree.proofs.blocks.Blocks.place_of_origin.Goals as goal

pub returns : goal.returns
returns c d =
    let bs = c.args.self.now.blocks in
    let items = c.self.inside.blocks.items in
    let seat = c.in_ok-seat.seat in
    let has = c.in_ok-seat.ensures.inside in
    let block = c.index.result.now in
    let same : items ≡ bs = ap (λ v. v.blocks) c.self.view_is in
    let there : block ≡ get_or bs seat.block [] = as_read bs seat.block block has.within (read_of items bs seat.block block same c.index.ensures) in
    let size = ap length there in
    let inside = has.inside in
    let within : seat.offset < length block = omega (arith, size, inside) in
    let node : c.get-2.result ≡ get_or (nodes_in bs) (length (nodes_in (take seat.block bs)) + seat.offset) d =
    c.get-2.ensures ∙ get_or_default block seat.offset c.get-2.result d within ∙ ap (λ b. get_or b seat.offset d) there ∙ sym (at_seat bs seat.block seat.offset d has.within inside) in
    ap (λ n. Some n.place) node ∙ ap (option_map (λ r. (get_or (nodes_in bs) r d).place)) (c.in_ok-seat.ensures.origin d)
