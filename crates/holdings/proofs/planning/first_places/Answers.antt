-- One frame more.
use Rattle.std.proofs.Common.{◌++◌, ◌∷◌, [], length, take, sym, ap, ◌∙◌, subst}
use Rattle.std.proofs.lemmas.List.{take_all, take_more}
use Rattle.maptree.specs.Origins.{AreRising, Origins}
use Rattle.holdings.specs.Inner.Stripping.{firsts}
use Rattle.holdings.specs.Inner.StripPlans.{HaveRuns, all_firsts}
use Rattle.holdings.proofs.Contents.Holders.{links_read}
use Rattle.holdings.proofs.Planned.Outermost.{firsts_more}
use Rattle.holdings.proofs.planning.first_places.Goals as goal

pub bounds-trees-frame : goal.bounds-trees-frame
bounds-trees-frame c = (subst (HaveRuns c.args.trees.now) (sym c.frame-item.is) (c.requires c.loop-frame.frame-index c.frame-item.result c.loop-frame-test.true)).frame

pub add_firsts-requires : goal.add_firsts-requires
add_firsts-requires c =
    let trees = c.args.trees.now in
    let f = c.frame-item.result in
    let have : HaveRuns trees f = subst (HaveRuns trees) (sym c.frame-item.is) (c.requires c.loop-frame.frame-index f c.loop-frame-test.true) in
    subst (λ (os : Origins). AreRising 0 f.runs (length os)) (links_read trees f.frame c.index-trees-frame.result have.frame c.index-trees-frame.is) have.rising

pub loop-frame-preserved : goal.loop-frame-preserved
loop-frame-preserved c =
    let trees = c.args.trees.now in
    let f = c.frame-item.result in
    let have : HaveRuns trees f = subst (HaveRuns trees) (sym c.frame-item.is) (c.requires c.loop-frame.frame-index f c.loop-frame-test.true) in
    let links = links_read trees f.frame c.index-trees-frame.result have.frame c.index-trees-frame.is in
    let before = take c.loop-frame.frame-index c.args.frames.now in
    let grown = take_more c.args.frames.now c.loop-frame.frame-index f c.loop-frame-test.true ∙ ap (λ g. before ++ g ∷ []) (sym c.frame-item.is) in
    c.in_ok-add_firsts.ensures ∙ ap (λ ps. ps ++ firsts c.index-trees-frame.result.links f.runs) c.loop-frame.invariant ∙ ap (λ (os : Origins). all_firsts trees before ++ firsts os f.runs) (sym links)
    ∙ sym (firsts_more trees before f) ∙ ap (all_firsts trees) (sym grown)

pub returns : goal.returns
returns c = c.loop-frame.invariant ∙ ap (all_firsts c.args.trees.now) (take_all c.loop-frame.frame-index c.args.frames.now c.loop-frame-test.false)
