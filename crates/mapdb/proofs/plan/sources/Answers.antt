-- One transfer more.
use Rattle.std.proofs.Common.{◌+◌, take, refl, sym, ap, ◌∙◌, subst}
use Rattle.mapdb.proofs.Ends.{AreSources, one_extends, one_goes, all_sources}
use Rattle.mapdb.proofs.plan.sources.Goals.{then-not-transfer+in_ok-push, else-not-transfer}
use Rattle.mapdb.proofs.plan.sources.Goals as goal

pub loop-transfer-init : goal.loop-transfer-init
loop-transfer-init c = subst (AreSources (take 0 c.args.transfers.now)) (sym c.in_ok-places.ensures.items) (λ p. refl)

pub loop-transfer-preserved : goal.loop-transfer-preserved
loop-transfer-preserved c =
    let ts = c.args.transfers.now in
    let i = c.loop-transfer.transfer-index in
    elim c.if-not-transfer.branch [
      | then-not-transfer+in_ok-push w ↦
          subst (AreSources (take (i + 1) ts)) (sym (ap (λ v. v.items) w.places-is ∙ w.in_ok-push.ensures.items))
          (one_goes ts i _ c.loop-transfer-test.true c.loop-transfer.places.items c.loop-transfer.invariant w.if-not-transfer.true)
      | else-not-transfer w ↦
          subst (AreSources (take (i + 1) ts)) (sym (ap (λ v. v.items) w.places-is))
          (one_extends ts i _ c.loop-transfer-test.true c.loop-transfer.places.items c.loop-transfer.invariant w.if-not-transfer.false)
    ]

pub returns : goal.returns
returns c = all_sources c.args.transfers.now c.loop-transfer.transfer-index c.loop-transfer.places.items c.loop-transfer-test.false c.loop-transfer.invariant
