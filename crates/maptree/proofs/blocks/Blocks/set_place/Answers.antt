-- One node of one block.
use Rattle.std.proofs.Common.{◌≡◌, ◌<◌, ◌+◌, length, set, get_or, take, ap, arith, ◌∙◌, sym, refl, drop, true, subst}
use Rattle.std.proofs.lemmas.List.{length-set}
use Rattle.space.specs.declared.node.Node.{Node}
use Rattle.std.specs.List.{slice_index}
use Rattle.maptree.specs.Blocks.{nodes_in, is_least, is_most}
use Rattle.maptree.proofs.InBlocks.{read_of, as_read, at_seat}
use Rattle.maptree.proofs.BlockChanges.{set_node, count_set}
use Rattle.maptree.proofs.Starts.{starts_set}
use Rattle.maptree.proofs.Depths.{least_set, behind_set}
use Rattle.maptree.proofs.Deepest.{most_set}
use Rattle.maptree.proofs.MinDepths.{least_of_block, min_depths_kept}
use Rattle.space.proofs.Lists.{blank}
use Rattle.maptree.proofs.blocks.Blocks.set_place.Goals as goal

pub returns-clause-nodes : goal.returns-clause-nodes
returns-clause-nodes c d =
    let items = c.self.inside.blocks.items in
    let bs = c.args.self.now.blocks in
    let seat = c.seat_of-seat.result in
    let block = c.index_mut-block.result.now in
    let within = c.seat_of-seat.ensures.seat.within in
    let same : items ≡ bs = ap (λ v. v.blocks) c.self.view_is in
    let read = as_read bs seat.block block within (read_of items bs seat.block block same c.index_mut-block.ensures.value) in
    let size = ap length read in
    let inside = c.seat_of-seat.ensures.inside in
    let at : get_or (nodes_in bs) (length (nodes_in (take seat.block bs)) + seat.offset) d ≡ get_or block seat.offset d =
    at_seat bs seat.block seat.offset d within inside ∙ ap (λ b. get_or b seat.offset d) (sym read) in
    ap (λ b. nodes_in (set items seat.block b)) (c.set_place.ensures d)
    ∙ ap (λ l. nodes_in (set l seat.block (set block seat.offset (record { place = c.args.place; depth = (get_or block seat.offset d).depth })))) same
    ∙ set_node bs seat.block block seat.offset (record { place = c.args.place; depth = (get_or block seat.offset d).depth }) within read (omega (arith, size, inside))
    ∙ ap (λ (n : Node). set (nodes_in bs) (length (nodes_in (take seat.block bs)) + seat.offset) (record { place = c.args.place; depth = n.depth })) (sym at)
    ∙ ap (λ i. set (nodes_in bs) i (record { place = c.args.place; depth = (get_or (nodes_in bs) i d).depth })) c.seat_of-seat.ensures.seat.before

pub invariant_of-self : goal.invariant_of-self
invariant_of-self c =
    let items = c.self.inside.blocks.items in
    let bs = c.args.self.now.blocks in
    let seat = c.seat_of-seat.result in
    let block = c.index_mut-block.result.now in
    let new = c.set_place.new.self in
    let same : items ≡ bs = ap (λ v. v.blocks) c.self.view_is in
    let count = ap length same in
    let in_bs = c.seat_of-seat.ensures.seat.within in
    let within : seat.block < length items = omega (arith, count, in_bs) in
    let read = ap length (as_read items seat.block block within c.index_mut-block.ensures.value) in
    let kept = ap length (c.set_place.ensures blank) ∙ length-set block seat.offset (record { place = c.args.place; depth = (get_or block seat.offset blank).depth }) in
    let counted = count_set items seat.block new within in
    let size = length-set items seat.block new in
    let is = c.self.invariant in
    let same_starts = starts_set items seat.block new c.self.inside.starts c.self.inside.starts within is.5 refl (λ j less. refl) (λ j behind less. omega (arith, read, kept)) in
    let ls = c.self.inside.min_depths.min_depths in
    let least = least_of_block items ls seat.block block is.7 within c.index_mut-block.ensures.value in
    let inside = c.seat_of-seat.ensures.inside in
    let there = ap length (as_read bs seat.block block in_bs (read_of items bs seat.block block same c.index_mut-block.ensures.value)) in
    let here = as_read bs seat.block block in_bs (read_of items bs seat.block block same c.index_mut-block.ensures.value) in
    let at : get_or (nodes_in bs) (length (nodes_in (take seat.block bs)) + seat.offset) blank ≡ get_or block seat.offset blank =
    at_seat bs seat.block seat.offset blank in_bs inside ∙ ap (λ b. get_or b seat.offset blank) (sym here) in
    let nodes : nodes_in (set items seat.block new) ≡ set (nodes_in bs) c.args.i (record { place = c.args.place; depth = (get_or (nodes_in bs) c.args.i blank).depth }) =
    ap (λ b. nodes_in (set items seat.block b)) (c.set_place.ensures blank)
    ∙ ap (λ l. nodes_in (set l seat.block (set block seat.offset (record { place = c.args.place; depth = (get_or block seat.offset blank).depth })))) same
    ∙ set_node bs seat.block block seat.offset (record { place = c.args.place; depth = (get_or block seat.offset blank).depth }) in_bs here (omega (arith, there, inside))
    ∙ ap (λ (n : Node). set (nodes_in bs) (length (nodes_in (take seat.block bs)) + seat.offset) (record { place = c.args.place; depth = n.depth })) (sym at)
    ∙ ap (λ i. set (nodes_in bs) i (record { place = c.args.place; depth = (get_or (nodes_in bs) i blank).depth })) c.seat_of-seat.ensures.seat.before in
    let behind : is_least c.self.inside.behind (drop 1 (nodes_in (set items seat.block new))) ≡ true =
    ap (λ ns. is_least c.self.inside.behind (drop 1 ns)) nodes
    ∙ behind_set c.self.inside.behind c.args.i c.args.place blank (nodes_in bs) c.requires (subst (λ l. is_least c.self.inside.behind (drop 1 (nodes_in l)) ≡ true) same is.9) in
    let same_min_depths = min_depths_kept items seat.block new ls within is.7
    (ap (is_least (slice_index ls seat.block)) (c.set_place.ensures blank) ∙ least_set (slice_index ls seat.block) seat.offset c.args.place blank block (omega (arith, there, inside)) least) in (
      omega (arith, is.0, counted, read, kept),
      omega (arith, is.1, size),
      is.2,
      omega (arith, is.3, size),
      is.4,
      same_starts,
      omega (arith, is.6, size),
      same_min_depths,
      omega (arith, is.8, size),
      behind,
      ap (is_most c.self.inside.deepest) nodes ∙ most_set c.self.inside.deepest c.args.i c.args.place blank (nodes_in bs) c.requires (subst (λ l. is_most c.self.inside.deepest (nodes_in l) ≡ true) same is.10),
    )
