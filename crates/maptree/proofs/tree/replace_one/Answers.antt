-- The node that has the place, or none, has the other.
use Rattle.std.proofs.Common.{sym, ◌∙◌}
use Rattle.space.proofs.Lists.{blank}
use Rattle.maptree.proofs.OneReplaced.{one_replaced, none_replaced}
use Rattle.maptree.proofs.tree.replace_one.Goals as goal

pub returns-in-Some-clause-nodes : goal.returns-in-Some-clause-nodes
returns-in-Some-clause-nodes c = λ new is.
    c.set_place.ensures.nodes blank ∙ one_replaced new c.args.old c.args.place is c.args.nodes.now.nodes c.in-Some.i blank c.requires (sym c.find.ensures ∙ c.in-Some.is)

pub returns-in_default-clause-nodes : goal.returns-in_default-clause-nodes
returns-in_default-clause-nodes c = λ new is.
    none_replaced new c.args.old c.args.place is c.args.nodes.now.nodes (sym c.find.ensures ∙ c.in_default.is)
