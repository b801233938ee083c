-- Space after space.
use Rattle.std.proofs.Common.{◌++◌, ◌∙◌, sym, ap, arith}
use Rattle.mapdb.specs.Held.{held_from}
use Rattle.audit.proofs.Told.{some_told, space_told}
use Rattle.audit.proofs.parts.Report.push_in_turn.Goals as goal

pub loop-self-init : goal.loop-self-init
loop-self-init c = (c.self.invariant.0, c.self.invariant.1, ap (λ p. p.part ++ p.rest) (sym c.self.view_is))

pub push_some-next-requires : goal.push_some-next-requires
push_some-next-requires c = c.loop-self.invariant.1

pub invariant_of-self : goal.invariant_of-self
invariant_of-self c = (c.loop-self.invariant.0, c.loop-self.invariant.1)

pub invariant_of-self-in-Some : goal.invariant_of-self-in-Some
invariant_of-self-in-Some c = (c.loop-self.invariant.0, omega (arith, c.loop-self.invariant.1, c.push_some-next.ensures.room))

pub returns-in-Some-clause-parts : goal.returns-in-Some-clause-parts
returns-in-Some-clause-parts c =
    let r = c.loop-self.self-inside in
    c.loop-self.invariant.2 ∙ some_told (held_from r.mappings) r.spaces.items r.told r.page c.index.result.now (omega (arith, c.loop-self-test.true, c.len.ensures)) c.index.ensures r.text.items c.push_some-next.new.text.items c.in-Some.page c.in-Some.ensures.some

pub invariant_of-self-then-not-is_empty : goal.invariant_of-self-then-not-is_empty
invariant_of-self-then-not-is_empty c = (omega (arith, c.loop-self-test.true), omega (arith, c.loop-self.invariant.1, c.push_some-next.ensures.room))

pub returns-then-not-is_empty-clause-parts : goal.returns-then-not-is_empty-clause-parts
returns-then-not-is_empty-clause-parts c =
    let r = c.loop-self.self-inside in
    c.loop-self.invariant.2 ∙ space_told (held_from r.mappings) r.spaces.items r.told r.page c.index.result.now (omega (arith, c.loop-self-test.true, c.len.ensures)) c.index.ensures r.text.items c.push_some-next.new.text.items c.in_default.ensures.all

pub loop-self-smaller : goal.loop-self-smaller
loop-self-smaller c = omega (arith, c.loop-self-test.true)

pub loop-self-preserved : goal.loop-self-preserved
loop-self-preserved c =
    let r = c.loop-self.self-inside in (
      omega (arith, c.loop-self-test.true),
      omega (arith, c.loop-self.invariant.1, c.push_some-next.ensures.room),
      c.loop-self.invariant.2 ∙ space_told (held_from r.mappings) r.spaces.items r.told r.page c.index.result.now (omega (arith, c.loop-self-test.true, c.len.ensures)) c.index.ensures r.text.items c.push_some-next.new.text.items c.in_default.ensures.all,
    )

pub returns-clause-parts : goal.returns-clause-parts
returns-clause-parts c = c.loop-self.invariant.2
