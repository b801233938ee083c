-- A place that is found has the origin of its position; one that is not found has none.
use Rattle.std.proofs.Common.{sym, ap, ◌∙◌}
use Rattle.space.specs.Place.{same_place}
use Rattle.maptree.specs.Origins.{origin_in}
use Rattle.maptree.proofs.Found.{found_at, none_from_position}
use Rattle.holdings.proofs.Trees.Positions.{unlisted_origin}
use Rattle.holdings.proofs.tree.origin.Goals as goal

pub returns-in_err-i : goal.returns-in_err-i
returns-in_err-i c =
    let links = c.args.tree.now.links in
    c.from_residual.ensures ∙ sym (unlisted_origin links c.args.place (none_from_position (λ o. same_place c.args.place o.0) links (sym c.find.ensures ∙ c.in_err-i.was)))

pub returns : goal.returns
returns c =
    let links = c.args.tree.now.links in
    let p = c.args.place in
    let here = found_at links p c.in_ok-i.i (sym c.find.ensures ∙ c.in_ok-i.was) in
    sym (c.place_of_origin.ensures.is p) ∙ ap (origin_in links) (here.place p)
