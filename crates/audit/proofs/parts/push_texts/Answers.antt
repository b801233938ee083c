-- One more text.
use Rattle.std.proofs.Common.{IsOk, subst, arith}
use Rattle.std.specs.List.{All}
use Rattle.std.proofs.lemmas.List.{take_all}
use Rattle.std.proofs.lemmas.List.Elements.{All-more}
use Rattle.audit.proofs.Texts.{one_more_text, text_is_ok}
use Rattle.audit.proofs.parts.push_texts.Goals as goal

pub loop-text-preserved : goal.loop-text-preserved
loop-text-preserved c =
    let texts = c.args.texts.now in
    let i = c.loop-text.text-index in
    let item = c.text-item.result in (
      one_more_text texts i item c.in-Ok.text c.loop-text.whole.items c.deref.result.now _ _ c.loop-text-test.true c.text-item.is c.in-Ok.is c.deref.ensures.value
          c.in_ok-extend_from_slice-in-Ok.ensures.items c.loop-text.invariant.0,
      All-more IsOk texts i item c.loop-text-test.true c.loop-text.invariant.1 (text_is_ok texts i item c.in-Ok.text c.text-item.is c.in-Ok.is),
      omega (arith, c.loop-text.invariant.2, c.in_ok-extend_from_slice-in-Ok.ensures.capacity),
    )

pub returns-clause-all : goal.returns-clause-all
returns-clause-all c = subst (λ ts. All IsOk ts) (take_all c.loop-text.text-index c.args.texts.now c.loop-text-test.false) c.loop-text.invariant.1
