-- Each batch is planned by the function that was handed out.
use Rattle.std.proofs.Common.{◌≤◌, ◌<◌, ◌*◌, ◌∙◌, length, subst, sym, arith}
use Rattle.std.proofs.lemmas.Grind.{div_ceil_times}
use Rattle.pieces.specs.declared.piece.Piece.TheVariants as piece
use Rattle.holdings.specs.Inner.Faults.{word_accesses}
use Rattle.holdings.specs.Inner.Phases.{ArePieces}
use Rattle.holdings.proofs.Phases.Batches.{pieces_of_batches, no_touches, touches_joined}
use Rattle.holdings.proofs.access_batches.access_pieces.OwnLists.{reads-post-1-1}
use Rattle.holdings.proofs.access_batches.access_pieces.Goals as goal

pub returns : goal.returns
returns g c =
    let rs = c.in_ok-planned.planned.items in
    let size = c.max-size.result in
    let many = length c.args.accesses.now in
    let few : many ≤ length rs * size = subst (λ n. many ≤ n * size) (sym (c.in_ok-planned.ensures.count ∙ c.div_ceil-count.ensures)) (div_ceil_times many size (omega (arith, c.max-size.ensures))).0 in
    pieces_of_batches size (λ xs ps. ArePieces piece.Touch (word_accesses c.args.shards.now xs) ps) (no_touches c.args.shards.now) (touches_joined c.args.shards.now) (λ ps. ps.items) c.args.accesses.now rs c.all_pieces.result c.all_pieces.ensures.made c.all_pieces.ensures.pieces few
    (λ k d less.
    let planned = c.in_ok-planned.ensures.each k d (subst (λ n. k < n) c.in_ok-planned.ensures.count less) in
    search (reads-post-1-1, planned))
