-- The outcome, case by case.
use Rattle.std.proofs.Common.{◌≡◌, true, ◌<◌, length, sym, ap, ◌∙◌, subst, arith}
use Rattle.fpage.specs.Rights.{is_empty}
use Rattle.holdings.specs.Inner.Derivation.{stands_in}
use Rattle.maptree.specs.Origins.{Origins}
use Rattle.holdings.specs.Inner.Held.{links_in}
use Rattle.holdings.specs.Inner.Outcomes.{IsOutcomeIn}
use Rattle.holdings.proofs.Contents.Holders.{links_read}
use Rattle.holdings.proofs.Outcomes.PairOutcomes.{target_free, target_held, source_absent, without_rights, target_absent, other_frame, from_tree}
use Rattle.holdings.proofs.outcome.outcome_of.Goals as goal

pub returns-in_default-clause-fate : goal.returns-in_default-clause-fate
returns-in_default-clause-fate c = source_absent c.args.shards.now c.args.trees.now c.requires.sound c.args.kind c.args.rights c.args.source c.args.target c.requires.source c.requires.target (sym c.get.ensures ∙ c.in_default.is)

pub returns-then-is_empty-clause-fate : goal.returns-then-is_empty-clause-fate
returns-then-is_empty-clause-fate c =
    without_rights c.args.shards.now c.args.trees.now c.requires.sound c.args.kind c.args.rights c.args.source c.args.target c.requires.source c.requires.target c.in-Some.sent (sym c.get.ensures ∙ c.in-Some.is)
    (ap is_empty (sym c.meet.ensures) ∙ sym c.is_empty.ensures ∙ c.if-is_empty.true)

pub returns-in_default-get-clause-fate : goal.returns-in_default-get-clause-fate
returns-in_default-get-clause-fate c =
    target_absent c.args.shards.now c.args.trees.now c.requires.sound c.args.kind c.args.rights c.args.source c.args.target c.requires.source c.requires.target c.in-Some.sent (sym c.get.ensures ∙ c.in-Some.is)
    (ap is_empty (sym c.meet.ensures) ∙ sym c.is_empty.ensures ∙ c.if-is_empty.false) (sym c.get-2.ensures ∙ c.in_default-get.is)

pub returns-then-replaced-sent-clause-fate : goal.returns-then-replaced-sent-clause-fate
returns-then-replaced-sent-clause-fate c =
    other_frame c.args.shards.now c.args.trees.now c.requires.sound c.args.kind c.args.rights c.args.source c.args.target c.requires.source c.requires.target c.in-Some.sent (sym c.get.ensures ∙ c.in-Some.is)
    (ap is_empty (sym c.meet.ensures) ∙ sym c.is_empty.ensures ∙ c.if-is_empty.false) c.in-Some-get.replaced (sym c.get-2.ensures ∙ c.in-Some-get.is) c.if-replaced-sent.true

module _ (c : goal.After-index-trees-sent) where
  frame : c.in-Some.sent.frame < length c.args.trees.now
  frame = omega (arith, c.requires.sound.kept.fits.frame c.args.source c.in-Some.sent c.requires.source (sym c.get.ensures ∙ c.in-Some.is), c.requires.sound.kept.fits.count)

  same_frame : c.in-Some-get.replaced.frame ≡ c.in-Some.sent.frame
  same_frame = c.if-replaced-sent.false

pub outcome_in-requires-clause-source : goal.outcome_in-requires-clause-source
outcome_in-requires-clause-source c =
    ap (λ (os : Origins). stands_in os c.args.source) (sym (links_read c.args.trees.now c.in-Some.sent.frame c.index-trees-sent.result (frame c) c.index-trees-sent.is))
    ∙ c.requires.sound.kept.fits.listed c.args.source c.in-Some.sent c.requires.source (sym c.get.ensures ∙ c.in-Some.is)

pub outcome_in-requires-clause-target : goal.outcome_in-requires-clause-target
outcome_in-requires-clause-target c =
    ap (λ (os : Origins). stands_in os c.args.target) (sym (links_read c.args.trees.now c.in-Some.sent.frame c.index-trees-sent.result (frame c) c.index-trees-sent.is))
    ∙ subst (λ f. stands_in (links_in c.args.trees.now f) c.args.target ≡ true) (same_frame c)
    (c.requires.sound.kept.fits.listed c.args.target c.in-Some-get.replaced c.requires.target (sym c.get-2.ensures ∙ c.in-Some-get.is))

pub returns-clause-fate : goal.returns-clause-fate
returns-clause-fate c =
    let frame : c.in-Some.sent.frame < length c.args.trees.now = omega (arith, c.requires.sound.kept.fits.frame c.args.source c.in-Some.sent c.requires.source (sym c.get.ensures ∙ c.in-Some.is), c.requires.sound.kept.fits.count) in
    from_tree c.args.shards.now c.args.trees.now c.requires.sound c.args.kind c.args.rights c.args.source c.args.target c.requires.source c.requires.target c.in-Some.sent (sym c.get.ensures ∙ c.in-Some.is)
    (ap is_empty (sym c.meet.ensures) ∙ sym c.is_empty.ensures ∙ c.if-is_empty.false) c.in-Some-get.replaced (sym c.get-2.ensures ∙ c.in-Some-get.is) c.if-replaced-sent.false c.outcome_in.result
    (subst (λ os. IsOutcomeIn os c.args.kind c.args.source c.args.target c.outcome_in.result) (sym (links_read c.args.trees.now c.in-Some.sent.frame c.index-trees-sent.result frame c.index-trees-sent.is)) c.outcome_in.ensures.decided)

pub returns-in_default-get-clause-free : goal.returns-in_default-get-clause-free
returns-in_default-get-clause-free c is =
    target_free c.args.shards.now c.args.trees.now c.requires.sound c.args.kind c.args.rights c.args.source c.args.target c.requires.source c.requires.target (sym c.get-2.ensures ∙ c.in_default-get.is)

pub returns-then-replaced-sent-clause-held : goal.returns-then-replaced-sent-clause-held
returns-then-replaced-sent-clause-held c is =
    target_held c.args.shards.now c.args.trees.now c.requires.sound c.args.kind c.args.rights c.args.source c.args.target c.requires.source c.requires.target c.in-Some-get.replaced (sym c.get-2.ensures ∙ c.in-Some-get.is)

pub returns-clause-held : goal.returns-clause-held
returns-clause-held c is =
    target_held c.args.shards.now c.args.trees.now c.requires.sound c.args.kind c.args.rights c.args.source c.args.target c.requires.source c.requires.target c.in-Some-get.replaced (sym c.get-2.ensures ∙ c.in-Some-get.is)
