-- The place is found, and replaced where it stands.
use Rattle.std.proofs.Common.{sym, ap, ◌∙◌}
use Rattle.std.specs.Prelude.{is_some}
use Rattle.space.specs.Place.{same_place}
use Rattle.maptree.specs.Origins.{renamed}
use Rattle.maptree.proofs.Found.{some_found, none_found, found_at}
use Rattle.holdings.proofs.tree.replace.Goals as goal

pub unwrap-i-requires : goal.unwrap-i-requires
unwrap-i-requires c = ap is_some c.find.ensures ∙ some_found (λ o. same_place c.args.source o.0) c.args.tree.now.links c.requires.source

pub rename-requires-clause-new : goal.rename-requires-clause-new
rename-requires-clause-new c = none_found (λ o. same_place c.args.target o.0) c.args.tree.now.links c.requires.target

pub returns : goal.returns
returns c =
    let links = c.args.tree.now.links in
    let here = found_at links c.args.source c.unwrap-i.result (sym c.find.ensures ∙ c.unwrap-i.ensures) in
    c.rename.ensures.links c.args.source ∙ ap (λ p. renamed p c.args.target links) (here.place c.args.source)
