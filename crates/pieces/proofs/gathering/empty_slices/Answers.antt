-- One more place.
use Rattle.std.proofs.Common.{◌∙◌, ap}
use Rattle.space.specs.Slices.{nodes_of}
use Rattle.space.specs.declared.slice.Slice.{Slice}
use Rattle.pieces.proofs.Placed.{empty_more}
use Rattle.pieces.proofs.gathering.empty_slices.Goals as goal

pub loop-piece-preserved : goal.loop-piece-preserved
loop-piece-preserved c =
    let part : Slice = record { nodes = c.new.result } in
    ap nodes_of c.in_ok-push.ensures.items ∙ empty_more c.loop-piece.slices.items part c.loop-piece.piece c.loop-piece.invariant c.new.ensures.items
