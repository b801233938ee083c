-- One frame more.
use Rattle.std.proofs.Common.{◌++◌, ◌∷◌, [], take, sym, ap, ◌∙◌, subst}
use Rattle.std.proofs.lemmas.List.{take_more}
use Rattle.holdings.specs.Inner.StripPlans.{ArePlannedStrips}
use Rattle.holdings.proofs.Planned.Runs.{no_frame, one_frame}
use Rattle.holdings.proofs.planning.strips.Goals as goal

pub loop-frame-init : goal.loop-frame-init
loop-frame-init c = subst (ArePlannedStrips c.args.shards.now c.args.trees.now c.args.revoked c.args.flush []) (sym c.in_ok-pieces.ensures.items) (no_frame c.args.shards.now c.args.trees.now c.args.revoked c.args.flush)

pub loop-frame-preserved : goal.loop-frame-preserved
loop-frame-preserved c =
    let s = c.args.shards.now in
    let trees = c.args.trees.now in
    let before = take c.loop-frame.frame-index c.args.frames.now in
    let grown = take_more c.args.frames.now c.loop-frame.frame-index c.frame-item.result c.loop-frame-test.true ∙ ap (λ f. before ++ f ∷ []) (sym c.frame-item.is) in
    subst (λ fs. ArePlannedStrips s trees c.args.revoked c.args.flush fs c.add_frame.new.pieces.items) (sym grown)
    (one_frame s trees c.args.revoked c.args.flush before c.loop-frame.pieces.items c.add_frame.new.pieces.items c.loop-frame.invariant c.frame-item.result c.in_ok-add_frame.ensures)
