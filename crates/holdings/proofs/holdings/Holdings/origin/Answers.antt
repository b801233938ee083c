-- The tree of its frame has the origin of a place.
use Rattle.std.proofs.Common.{◌≡◌, ◌<◌, None, Option, length, sym, ap, ◌∙◌, subst, arith}
use Rattle.std.specs.Option.{option_and_then}
use Rattle.space.specs.declared.place.Place.{Place}
use Rattle.maptree.specs.Origins.{origin_in}
use Rattle.model.specs.Definitions.Holdings.{origin_at}
use Rattle.holdings.specs.Places.{IsWithin}
use Rattle.holdings.specs.Contents.{Contents}
use Rattle.holdings.specs.Inner.Held.{limits_in}
use Rattle.holdings.proofs.Contents.Holders.{absent_within, origin_within, links_read}
use Rattle.holdings.proofs.holdings.Holdings.origin.Goals as goal

pub returns-in_default : goal.returns-in_default
returns-in_default c =
    let h = c.self.inside in
    let p = c.args.place in
    let none : Option Place = None in
    let within = subst (λ (s : Contents). IsWithin s.limits p) (sym c.self.view_is) c.requires in
    let absent = absent_within (limits_in h.shards h.trees.items) h.shards h.trees.items p within (sym c.get.ensures ∙ c.in_default.is) in
    subst (λ (s : Contents). none ≡ origin_at s.holdings p) c.self.view_is
    (sym (ap (option_and_then (λ m. m.origin)) absent))

pub returns : goal.returns
returns c =
    let h = c.self.inside in
    let p = c.args.place in
    let e = c.in-Some.entry in
    let within = subst (λ (s : Contents). IsWithin s.limits p) (sym c.self.view_is) c.requires in
    let stands = sym c.get.ensures ∙ c.in-Some.is in
    let fits = c.self.invariant.kept.fits in
    let frame : e.frame < length h.trees.items = omega (arith, fits.frame p e within stands, fits.count) in
    let tree = links_read h.trees.items e.frame c.index.result.now frame c.index.ensures in
    subst (λ (s : Contents). c.origin.result ≡ origin_at s.holdings p) c.self.view_is
    (c.origin.ensures ∙ ap (λ os. origin_in os p) (sym tree) ∙ sym (origin_within (limits_in h.shards h.trees.items) h.shards h.trees.items p within e stands))
