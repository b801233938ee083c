-- A list that is short enough is one piece.
use Rattle.std.proofs.Common.{rules, arith, ◌∙◌, ap, sym, ◌∷◌, ◌++◌, []}
use Rattle.pieces.proofs.CutLists.{whole_piece}
use Rattle.pieces.proofs.cutting.cut.Goals as goal

pub returns : goal.returns
returns g c =
    c.in_ok-push.ensures.items ∙ ap (λ ps. ps ++ c.piece_of.result ∷ []) c.in_ok-whole.ensures.items ∙ ap (λ p. p ∷ []) c.piece_of.ensures
    ∙ sym (whole_piece g.T.Carried.piece c.args.most c.args.list.items (search (rules, arith)) (search (rules, arith)))
