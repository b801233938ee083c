-- The origin is read at its position.
use Rattle.std.proofs.Common.{◌≡◌, get_or, sym, ap, ◌∙◌, subst}
use Rattle.maptree.specs.Origins.{Shape, AreLinksOf, IsOriginAt}
use Rattle.maptree.proofs.Listed.{listed_origin}
use Rattle.maptree.proofs.origins.NodeOrigins.at.Goals as goal

pub returns-in-Some : goal.returns-in-Some
returns-in-Some c =
    let os = c.args.self.now.links in
    let given = subst (λ (s : Shape). AreLinksOf s c.in-Some.links.items) c.self.view_is (c.self.invariant c.in-Some.links c.in-Some.is) in
    let read : c.index.result.now ≡ get_or os c.args.i c.index.result.now = c.index.ensures ∙ ap (λ xs. get_or xs c.args.i c.index.result.now) given.are in
    subst (λ (e : _). IsOriginAt os c.args.i e.1) (sym read) (listed_origin os c.args.i c.index.result.now given.once given.stand c.requires)
