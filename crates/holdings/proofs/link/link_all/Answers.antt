-- The part is all trees.
use Rattle.std.proofs.Common.{length, sym, subst}
use Rattle.holdings.specs.Inner.Links.{AreLinkable, AreLinked, links_of}
use Rattle.holdings.proofs.Links.Parts.{all_between}
use Rattle.holdings.proofs.link.link_all.Goals as goal

pub link_part-requires-clause-linkable : goal.link_part-requires-clause-linkable
link_part-requires-clause-linkable c =
    let trees = c.args.trees.now in
    subst (AreLinkable trees) (sym (all_between (links_of c.args.shards.now c.args.transfers.now) (length trees) c.requires.linkable.frames)) c.requires.linkable

pub returns-clause-linked : goal.returns-clause-linked
returns-clause-linked c =
    let trees = c.args.trees.now in
    subst (λ ls. AreLinked ls trees c.link_part.new.part) (all_between (links_of c.args.shards.now c.args.transfers.now) (length trees) c.requires.linkable.frames) c.in_ok-link_part.ensures
