-- One more piece is cut off.
use Rattle.std.proofs.Common.{rules, arith, ◌∙◌, ap, ◌∷◌, ◌++◌, []}
use Rattle.pieces.proofs.CutLists.{next_piece}
use Rattle.pieces.proofs.cutting.cut_parts.Goals as goal

pub loop-rest-preserved : goal.loop-rest-preserved
loop-rest-preserved g c = (
  next_piece g.T.Carried.piece c.args.most c.min.result c.loop-rest.parts.items _ _ c.loop-rest.rest.now c.split_at.result.0.now c.split_at.result.1.now c.requires.most (search (rules, arith)) c.min.ensures
      c.split_at.ensures.front c.split_at.ensures.back
      (c.in_ok-push.ensures.items ∙ ap (λ p. c.loop-rest.parts.items ++ p ∷ []) (c.piece_of.ensures ∙ ap g.T.Carried.piece c.in_ok-from_slice.ensures.items))
      c.loop-rest.invariant.0,
  ap g.T.Carried.fits c.split_at.ensures.back ∙ (g.met.T.Carried.parts_fit c.min.result c.loop-rest.rest.now c.loop-rest.invariant.1).1,
)

pub piece_of-requires : goal.piece_of-requires
piece_of-requires g c =
    ap g.T.Carried.fits (c.in_ok-from_slice.ensures.items ∙ c.split_at.ensures.front) ∙ (g.met.T.Carried.parts_fit c.min.result c.loop-rest.rest.now c.loop-rest.invariant.1).0
