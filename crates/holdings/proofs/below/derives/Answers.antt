-- Both places are found.
use Rattle.std.proofs.Common.{sym, ap, ◌∙◌}
use Rattle.std.specs.Prelude.{is_some}
use Rattle.space.specs.Place.{same_place}
use Rattle.maptree.proofs.Found.{some_found}
use Rattle.holdings.proofs.Trees.Under.{decided_by}
use Rattle.holdings.proofs.below.derives.Goals as goal

pub unwrap-i-requires : goal.unwrap-i-requires
unwrap-i-requires c = ap is_some c.find.ensures ∙ some_found (λ o. same_place c.args.place o.0) c.args.tree.now.links c.requires.place

pub unwrap-j-requires : goal.unwrap-j-requires
unwrap-j-requires c = ap is_some c.find-2.ensures ∙ some_found (λ o. same_place c.args.above o.0) c.args.tree.now.links c.requires.above

pub returns : goal.returns
returns c =
    decided_by c.args.tree.now.links c.args.place c.args.above c.unwrap-i.result c.unwrap-j.result c.is_origin.result (sym c.find.ensures ∙ c.unwrap-i.ensures) (sym c.find-2.ensures ∙ c.unwrap-j.ensures) c.is_origin.ensures
