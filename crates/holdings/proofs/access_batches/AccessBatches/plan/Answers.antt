-- The accesses of a batch, in pieces.
use Rattle.std.proofs.Common.{length, ap, ◌∙◌, subst, arith}
use Rattle.space.specs.Slices.{pieces}
use Rattle.pieces.specs.declared.piece.Piece.TheVariants as piece
use Rattle.pieces.proofs.InPieces.{joined_pieces}
use Rattle.holdings.specs.Inner.Faults.{word_accesses}
use Rattle.holdings.specs.Inner.Phases.{ArePieces}
use Rattle.holdings.proofs.access_batches.AccessBatches.plan.Goals as goal

pub returns : goal.returns
returns c =
    let b = c.args.self.now in
    let list = c.in_ok-list.list.items in
    subst (λ xs. ArePieces piece.Touch xs c.in_ok-pieces.pieces.items) (c.in_ok-list.ensures ∙ ap (word_accesses b.shards.now) c.batch_of-accesses.ensures)
    (record { parts = pieces (length list) b.most list; are = c.in_ok-pieces.ensures; joined = joined_pieces (length list) b.most list c.requires.most (omega arith) })
