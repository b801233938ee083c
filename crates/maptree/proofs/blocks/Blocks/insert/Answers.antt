-- One node more in one block.
use Rattle.std.proofs.Common.{◌≡◌, ◌<◌, length, set, ap, sym, subst, rules, arith, ◌∙◌, drop, true, ◌≤◌}
use Rattle.std.specs.Prelude.{insert}
use Rattle.std.proofs.lemmas.List.{length-set}
use Rattle.std.proofs.lemmas.List.Edits.{length-insert}
use Rattle.maptree.specs.Blocks.{nodes_in, is_least, is_most}
use Rattle.maptree.specs.Blocks.{AreMinDepths, AreStarts}
use Rattle.maptree.proofs.InBlocks.{read_of, as_read}
use Rattle.maptree.proofs.Starts.{starts_set, before_all}
use Rattle.maptree.proofs.MinDepths.{min_depths_set}
use Rattle.maptree.proofs.BlockChanges.{insert_node, count_set}
use Rattle.maptree.proofs.Depths.{behind_insert, least_zero}
use Rattle.maptree.proofs.Deepest.{most_insert, most_more}
use Rattle.maptree.proofs.blocks.Blocks.insert.Goals.{then-i-eq0, else-i-eq0}
use Rattle.maptree.proofs.blocks.Blocks.insert.Goals as goal

pub returns-clause-nodes : goal.returns-clause-nodes
returns-clause-nodes c =
    let items = c.self.inside.blocks.items in
    let bs = c.seat_with_room-seat.new.self.blocks in
    let seat = c.seat_with_room-seat.result in
    let block = c.index_mut-block.result.now in
    let is = c.seat_with_room-seat.ensures.seat in
    let same : items ≡ bs = ap (λ v. v.blocks) c.self.view_is in
    let read = as_read bs seat.block block is.within (read_of items bs seat.block block same c.index_mut-block.ensures.value) in
    let size = ap length read in
    let upto = is.upto in
    ap (λ v. nodes_in v.blocks) c.renew_cache.ensures
    ∙ ap (λ b. nodes_in (set items seat.block b)) c.insert.ensures
    ∙ ap (λ l. nodes_in (set l seat.block (insert block seat.offset c.args.node))) same
    ∙ insert_node bs seat.block block seat.offset c.args.node is.within read (omega (arith, size, upto))
    ∙ ap (λ i. insert (nodes_in bs) i c.args.node) is.before
    ∙ ap (λ l. insert l c.args.i c.args.node) c.seat_with_room-seat.ensures.nodes

-- before each block stand fewer than there are
pub add-requires-clause-fits : goal.add-requires-clause-fits
add-requires-clause-fits c j behind less =
    let inv = c.self.invariant in
    let items = c.self.inside.blocks.items in
    let count = inv.5.count in
    let within : j < length items = search (rules, arith, count) in
    let is = inv.5.each j within in
    let most = before_all items j in
    let all = inv.0 in
    let fits = inv.4 in
    let room = ap (λ v. v.room) c.self.view_is in
    let old = c.seat_with_room-seat.ensures.room in
    let more = c.requires.room in
    search (rules, arith, is, most, all, fits, room, old, more)

pub invariant_of-self : goal.invariant_of-self
invariant_of-self c =
    let items = c.self.inside.blocks.items in
    let bs = c.seat_with_room-seat.new.self.blocks in
    let seat = c.seat_with_room-seat.result in
    let block = c.index_mut-block.result.now in
    let new = c.insert.new.self in
    let is = c.seat_with_room-seat.ensures.seat in
    let same : items ≡ bs = ap (λ v. v.blocks) c.self.view_is in
    let count = ap length same in
    let in_bs = is.within in
    let within : seat.block < length items = omega (arith, count, in_bs) in
    let read = ap length (as_read items seat.block block within c.index_mut-block.ensures.value) in
    let there = ap length (as_read bs seat.block block in_bs (read_of items bs seat.block block same c.index_mut-block.ensures.value)) in
    let upto = is.upto in
    let more = ap length c.insert.ensures ∙ length-insert block seat.offset c.args.node (omega (arith, there, upto)) in
    let counted = count_set items seat.block new within in
    let size = length-set items seat.block new in
    let here = as_read bs seat.block block in_bs (read_of items bs seat.block block same c.index_mut-block.ensures.value) in
    let nodes : nodes_in (set items seat.block new) ≡ insert (nodes_in bs) c.args.i c.args.node =
    ap (λ b. nodes_in (set items seat.block b)) c.insert.ensures
    ∙ ap (λ l. nodes_in (set l seat.block (insert block seat.offset c.args.node))) same
    ∙ insert_node bs seat.block block seat.offset c.args.node in_bs here (omega (arith, there, upto))
    ∙ ap (λ i. insert (nodes_in bs) i c.args.node) is.before in
    let old : is_least c.self.inside.behind (drop 1 (nodes_in bs)) ≡ true = subst (λ l. is_least c.self.inside.behind (drop 1 (nodes_in l)) ≡ true) same c.self.invariant.9 in
    let upto_all : c.args.i ≤ length (nodes_in bs) = let l = ap length c.seat_with_room-seat.ensures.nodes in omega (arith, l, c.requires.within) in
    let behind : is_least c.if-i-eq0.self (drop 1 (insert (nodes_in bs) c.args.i c.args.node)) ≡ true =
    elim c.if-i-eq0.branch [
      | then-i-eq0 w ↦ ap (λ a. is_least a (drop 1 (insert (nodes_in bs) c.args.i c.args.node))) w.self-is ∙ least_zero (drop 1 (insert (nodes_in bs) c.args.i c.args.node))
      | else-i-eq0 w ↦
          let least = w.min-self-inside.result in
          let low : least ≤ c.self.inside.behind = search (rules, arith) in
          let first : least ≤ c.args.node.depth = search (rules, arith) in
          let some : 0 < c.args.i = search (rules, arith) in
          ap (λ a. is_least a (drop 1 (insert (nodes_in bs) c.args.i c.args.node))) w.self-is
          ∙ behind_insert least c.self.inside.behind c.args.i c.args.node (nodes_in bs) some upto_all low first old
    ] in
    let most = c.max-self-inside.result in
    let greater : c.self.inside.deepest ≤ most = search (rules, arith) in
    let shallow : c.args.node.depth ≤ most = search (rules, arith) in
    let kept : c.self.inside.room ≡ c.seat_with_room-seat.new.self.room = search rules in
    let inv = c.self.invariant in
    let starts = c.self.inside.starts in
    let next = c.add.new.self in
    let same_starts : AreStarts (set items seat.block new) next = starts_set items seat.block new starts next within inv.5 c.add.ensures.count c.add.ensures.upto (λ j behind less. let changed = c.add.ensures.behind j behind less in omega (arith, changed, read, more)) in (
      omega (arith, inv.0, counted, read, more),
      omega (arith, inv.1, size),
      inv.2,
      omega (arith, inv.3, size),
      omega (arith, c.seat_with_room-seat.ensures.fits, c.seat_with_room-seat.ensures.room, inv.0, ap (λ l. length (nodes_in l)) same, kept),
      same_starts,
      search (rules, arith, size, inv.6),
      subst (AreMinDepths (set items seat.block new)) (sym c.set.ensures.min_depths) (min_depths_set items seat.block new c.self.inside.min_depths.min_depths c.least.result within inv.7 c.least.ensures),
      search (rules, arith, size, inv.8),
      ap (λ ns. is_least c.if-i-eq0.self (drop 1 ns)) nodes ∙ behind,
      ap (is_most most) nodes ∙ most_insert most c.args.i c.args.node (nodes_in bs) shallow (most_more c.self.inside.deepest most (nodes_in bs) greater (subst (λ l. is_most c.self.inside.deepest (nodes_in l) ≡ true) same c.self.invariant.10)),
    )
