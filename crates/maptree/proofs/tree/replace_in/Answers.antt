-- The one node that has the place of a map's only entry, or no node, has its new place.
use Rattle.std.proofs.Common.{sym, ◌∙◌}
use Rattle.maptree.specs.PlaceMaps.{place_for}
use Rattle.space.proofs.Lists.{blank}
use Rattle.maptree.proofs.OneReplaced.{one_replaced, none_replaced}
use Rattle.maptree.proofs.tree.replace_in.Goals as goal

pub returns-in-Some-find-clause-nodes : goal.returns-in-Some-find-clause-nodes
returns-in-Some-find-clause-nodes c =
    c.set_place.ensures.nodes blank
    ∙ one_replaced (place_for c.args.new.now) c.in-Some.old c.in-Some.place c.in-Some.ensures c.args.nodes.now.nodes c.in-Some-find.i blank c.requires (sym c.find.ensures ∙ c.in-Some-find.is)

pub returns-in_default-find-clause-nodes : goal.returns-in_default-find-clause-nodes
returns-in_default-find-clause-nodes c =
    none_replaced (place_for c.args.new.now) c.in-Some.old c.in-Some.place c.in-Some.ensures c.args.nodes.now.nodes (sym c.find.ensures ∙ c.in_default-find.is)
