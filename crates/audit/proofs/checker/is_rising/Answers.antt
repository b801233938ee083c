-- One more line.
use Rattle.std.proofs.Common.{◌≡◌, ◌-◌, ◌+◌, drop, map, sym, ap, ◌∙◌, is_ge, arith}
use Rattle.std.specs.FinMap.Entries.{is_sorted}
use Rattle.space.specs.Place.{place_cmp}
use Rattle.mapdb.specs.Held.{mapped_of}
use Rattle.audit.proofs.Checks.{blank, rise_on, fall_there, at_least, not_at_least, last_rises}
use Rattle.audit.proofs.checker.is_rising.Goals as goal

pub returns-then-is_ge : goal.returns-then-is_ge
returns-then-is_ge c =
    let falls = at_least _ (ap is_ge (sym c.cmp.ensures) ∙ sym c.if-is_ge.ensures) in
    sym (c.loop-i.invariant ∙ fall_there c.args.lines.now c.loop-i.i blank c.loop-i.auto.i c.loop-i-test.true falls)

pub loop-i-preserved : goal.loop-i-preserved
loop-i-preserved c =
    let rises = not_at_least _ (ap is_ge (sym c.cmp.ensures) ∙ sym c.if-is_ge.ensures) in
    let next : c.loop-i.i ≡ c.loop-i.i + 1 - 1 = omega arith in
    c.loop-i.invariant ∙ rise_on c.args.lines.now c.loop-i.i blank c.loop-i.auto.i c.loop-i-test.true rises
    ∙ ap (λ k. is_sorted place_cmp (map mapped_of (drop k c.args.lines.now))) next

pub returns : goal.returns
returns c = sym (c.loop-i.invariant ∙ last_rises c.args.lines.now (c.loop-i.i - 1) (omega (arith, c.loop-i-test.false, c.loop-i.auto.i)))
