-- Its word says what a page holds, and the origin stands at the index of the word.
use Rattle.std.proofs.Common.{◌≡◌, ◌∙◌, Some, ap, sym, subst, arith}
use Rattle.std.proofs.Common.{List}
use Rattle.std.specs.Option.{option_map}
use Rattle.space.specs.declared.place.Entry.{Entry}
use Rattle.space.specs.declared.place.Place.{Place}
use Rattle.space.specs.declared.shards.Shards.{Shards}
use Rattle.space.specs.Shards.{entry_at}
use Rattle.maptree.specs.Origins.{Shape}
use Rattle.model.specs.Definitions.Holdings.{at}
use Rattle.holdings.specs.Places.{IsWithin}
use Rattle.holdings.specs.Contents.{Contents, entry_of}
use Rattle.holdings.specs.Inner.Held.{contents_of, limits_in, held_with}
use Rattle.holdings.proofs.Contents.Holders.{entry_within, present_within}
use Rattle.holdings.proofs.mappings.Mappings.mapping.Goals as goal

stands_at : (s : Shards) (trees : List Shape) (held : Contents) → contents_of s trees ≡ held → (p : Place) (e : Entry) → IsWithin held.limits p → option_map entry_of (at held.holdings p) ≡ Some e → entry_at s p ≡ Some e
stands_at s trees held is p e within holds =
    sym (entry_within (limits_in s trees) s trees p (subst (λ (h : Contents). IsWithin h.limits p) (sym is) within)) ∙ ap (λ (h : Contents). option_map entry_of (at h.holdings p)) is ∙ holds

pub origin_of-requires-clause-place : goal.origin_of-requires-clause-place
origin_of-requires-clause-place c =
    let within = subst (λ (h : Contents). IsWithin h.limits c.args.place) (sym c.self.view_is) c.requires.within in
    record { space = within.space; page = within.page }

pub origin_of-requires-clause-held : goal.origin_of-requires-clause-held
origin_of-requires-clause-held c = stands_at c.self.inside.shards.now c.self.inside.trees.now c.args.self.now c.self.view_is c.args.place c.args.entry c.requires.within c.requires.held

pub origin_of-requires-clause-frame : goal.origin_of-requires-clause-frame
origin_of-requires-clause-frame c =
    let within = subst (λ (h : Contents). IsWithin h.limits c.args.place) (sym c.self.view_is) c.requires.within in
    let stands = stands_at c.self.inside.shards.now c.self.inside.trees.now c.args.self.now c.self.view_is c.args.place c.args.entry c.requires.within c.requires.held in
    let fits = c.self.invariant.0.kept.fits in
    omega (arith, fits.frame c.args.place c.args.entry within stands, fits.count)

pub returns-clause-held : goal.returns-clause-held
returns-clause-held c =
    let s = c.self.inside.shards.now in
    let trees = c.self.inside.trees.now in
    let p = c.args.place in
    let e = c.args.entry in
    let within = subst (λ (h : Contents). IsWithin h.limits p) (sym c.self.view_is) c.requires.within in
    let stands = stands_at s trees c.args.self.now c.self.view_is p e c.requires.within c.requires.held in
    ap (λ (h : Contents). at h.holdings p) (sym c.self.view_is) ∙ present_within (limits_in s trees) s trees p within e stands ∙ ap (λ o. Some (held_with o e)) (sym c.origin_of.ensures)
