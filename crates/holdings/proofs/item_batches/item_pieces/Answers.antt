-- Each batch is planned by the function that was handed out.
use Rattle.std.proofs.Common.{◌≤◌, ◌<◌, ◌*◌, ◌∙◌, length, subst, sym, arith}
use Rattle.std.proofs.lemmas.Grind.{div_ceil_times}
use Rattle.holdings.specs.Inner.Phases.{AreItemPieces}
use Rattle.holdings.proofs.Phases.Batches.{pieces_of_batches}
use Rattle.holdings.proofs.Phases.ItemParts.{no_items, items_joined}
use Rattle.holdings.proofs.item_batches.item_pieces.OwnLists.{reads-post-1-1}
use Rattle.holdings.proofs.item_batches.item_pieces.Goals as goal

pub returns : goal.returns
returns g c =
    let rs = c.in_ok-planned.planned.items in
    let size = c.max-size.result in
    let many = length c.args.transfers.now in
    let few : many ≤ length rs * size = subst (λ n. many ≤ n * size) (sym (c.in_ok-planned.ensures.count ∙ c.div_ceil-count.ensures)) (div_ceil_times many size (omega (arith, c.max-size.ensures))).0 in
    pieces_of_batches size (AreItemPieces c.args.passing c.args.shards.now) (no_items c.args.passing c.args.shards.now) (items_joined c.args.passing c.args.shards.now) (λ ps. ps.items) c.args.transfers.now rs c.all_pieces.result c.all_pieces.ensures.made c.all_pieces.ensures.pieces few
    (λ k d less.
    let planned = c.in_ok-planned.ensures.each k d (subst (λ n. k < n) c.in_ok-planned.ensures.count less) in
    search (reads-post-1-1, planned))
