-- One more node.
use Rattle.std.proofs.Common.{length, ap, ◌∙◌, arith}
use Rattle.std.proofs.lemmas.List.Edits.{length-insert}
use Rattle.page_tests.proofs.trees.put_below.Goals as goal

pub returns-clause-one_more : goal.returns-clause-one_more
returns-clause-one_more g c =
    ap length (c.insert_below.ensures.links c.args.place) ∙ length-insert _ _ _ (omega (arith, c.position-i.ensures))
