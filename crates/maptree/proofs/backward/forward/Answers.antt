-- The end of the vector is the front of the list.
use Rattle.std.proofs.Common.{◌∙◌, ap}
use Rattle.std.specs.Prelude.{reverse}
use Rattle.maptree.proofs.Reversed.{range_back}
use Rattle.maptree.proofs.backward.forward.Goals as goal

pub returns : goal.returns
returns c =
    c.reverse.ensures.items ∙ ap reverse c.in_ok-nodes.ensures.items ∙ range_back c.args.backward.now c.args.from c.args.to c.requires.rising c.requires.within
