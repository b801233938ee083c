-- Where both are held with one frame, the tree of that frame tells.
use Rattle.std.proofs.Common.{◌≡◌, ◌<◌, true, length, sym, ap, ◌∙◌, subst, arith}
use Rattle.std.specs.Prelude.{Decides}
use Rattle.maptree.specs.Origins.{Origins, LeadsTo}
use Rattle.holdings.specs.Inner.Derivation.{stands_in}
use Rattle.holdings.specs.Inner.Held.{links_in}
use Rattle.holdings.proofs.Contents.Holders.{links_read}
use Rattle.holdings.proofs.Trees.Under.{absent_derives, above_absent, other_frame, from_tree}
use Rattle.holdings.proofs.below.is_under.Goals as goal

pub returns-in_default : goal.returns-in_default
returns-in_default c = absent_derives c.args.shards.now c.args.trees.now c.requires.sound c.args.place c.args.above c.requires.place (sym c.get.ensures ∙ c.in_default.is)

pub returns-in_default-get : goal.returns-in_default-get
returns-in_default-get c =
    above_absent c.args.shards.now c.args.trees.now c.requires.sound c.args.place c.args.above c.requires.place c.in-Some.entry (sym c.get.ensures ∙ c.in-Some.is) (sym c.get-2.ensures ∙ c.in_default-get.is)

pub returns-then-from-entry : goal.returns-then-from-entry
returns-then-from-entry c =
    other_frame c.args.shards.now c.args.trees.now c.requires.sound c.args.place c.args.above c.requires.place c.in-Some.entry (sym c.get.ensures ∙ c.in-Some.is) c.in-Some-get.from (sym c.get-2.ensures ∙ c.in-Some-get.is) c.if-from-entry.true

module _ (c : goal.After-index-trees-entry) where
  frame : c.in-Some.entry.frame < length c.args.trees.now
  frame = omega (arith, c.requires.sound.kept.fits.frame c.args.place c.in-Some.entry c.requires.place (sym c.get.ensures ∙ c.in-Some.is), c.requires.sound.kept.fits.count)

pub derives-requires-clause-place : goal.derives-requires-clause-place
derives-requires-clause-place c =
    ap (λ (os : Origins). stands_in os c.args.place) (sym (links_read c.args.trees.now c.in-Some.entry.frame c.index-trees-entry.result (frame c) c.index-trees-entry.is))
    ∙ c.requires.sound.kept.fits.listed c.args.place c.in-Some.entry c.requires.place (sym c.get.ensures ∙ c.in-Some.is)

pub derives-requires-clause-above : goal.derives-requires-clause-above
derives-requires-clause-above c =
    ap (λ (os : Origins). stands_in os c.args.above) (sym (links_read c.args.trees.now c.in-Some.entry.frame c.index-trees-entry.result (frame c) c.index-trees-entry.is))
    ∙ subst (λ f. stands_in (links_in c.args.trees.now f) c.args.above ≡ true) c.if-from-entry.false
    (c.requires.sound.kept.fits.listed c.args.above c.in-Some-get.from c.requires.above (sym c.get-2.ensures ∙ c.in-Some-get.is))

pub returns : goal.returns
returns c =
    let frame : c.in-Some.entry.frame < length c.args.trees.now = omega (arith, c.requires.sound.kept.fits.frame c.args.place c.in-Some.entry c.requires.place (sym c.get.ensures ∙ c.in-Some.is), c.requires.sound.kept.fits.count) in
    from_tree c.args.shards.now c.args.trees.now c.requires.sound c.args.place c.args.above c.requires.place c.in-Some.entry (sym c.get.ensures ∙ c.in-Some.is) c.derives.result
    (subst (λ os. Decides c.derives.result (LeadsTo os 1 c.args.place c.args.above)) (sym (links_read c.args.trees.now c.in-Some.entry.frame c.index-trees-entry.result frame c.index-trees-entry.is)) c.derives.ensures)
