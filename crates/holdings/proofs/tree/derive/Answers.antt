-- The origin is found, and the place is put behind it.
use Rattle.std.proofs.Common.{◌+◌, Some, sym, ap, ◌∙◌}
use Rattle.std.specs.Prelude.{is_some, insert}
use Rattle.space.specs.Place.{same_place}
use Rattle.maptree.specs.Origins.{Origins}
use Rattle.holdings.specs.Inner.Derivation.{stands_in}
use Rattle.maptree.proofs.Found.{some_found, none_found, found_at}
use Rattle.holdings.proofs.Trees.Positions.{derived_below}
use Rattle.holdings.proofs.tree.derive.Goals as goal

pub unwrap-i-requires : goal.unwrap-i-requires
unwrap-i-requires c =
    let links = c.reserve.new.self.links in
    ap is_some c.find.ensures ∙ some_found (λ o. same_place c.args.origin o.0) links (ap (λ (os : Origins). stands_in os c.args.origin) c.reserve.ensures.links ∙ c.requires.origin)

pub insert_below-requires-clause-new : goal.insert_below-requires-clause-new
insert_below-requires-clause-new c =
    let links = c.reserve.new.self.links in
    none_found (λ o. same_place c.args.place o.0) links (ap (λ (os : Origins). stands_in os c.args.place) c.reserve.ensures.links ∙ c.requires.new)

pub returns-clause-ok : goal.returns-clause-ok
returns-clause-ok c =
    let links = c.reserve.new.self.links in
    let i = c.unwrap-i.result in
    let p = c.args.place in
    let here = found_at links c.args.origin i (sym c.find.ensures ∙ c.unwrap-i.ensures) in
    derived_below c.args.tree.now.links c.insert_below.new.self.links i c.args.origin p c.requires.new
    (c.insert_below.ensures.links p ∙ ap (λ x. insert links (i + 1) (p, Some x)) (here.place p) ∙ ap (λ (os : Origins). insert os (i + 1) (p, Some c.args.origin)) c.reserve.ensures.links)
