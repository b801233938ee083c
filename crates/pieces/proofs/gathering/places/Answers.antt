-- One more result has its place, or its number comes twice.
use Rattle.std.proofs.Common.{rules, arith, get_or, ap, ◌∙◌, sym, inr, refl}
use Rattle.pieces.proofs.Placed.{none_placed, number_below, next_placed, comes_twice, some_place, no_place}
use Rattle.pieces.proofs.gathering.places.Goals as goal

pub loop-i-init : goal.loop-i-init
loop-i-init c = none_placed c.args.pieces c.args.given.now c.in_ok-places.places.items (c.in_ok-places.ensures.items_if_clones_equal (λ y. search rules))

pub index-requires : goal.index-requires
index-requires c =
    let low = number_below c.args.pieces c.loop-i.i c.args.given.now c.loop-i.places.items c.index-given-i.result c.requires c.loop-i-test.true c.loop-i.invariant c.index-given-i.is in
    omega (arith, low.1, c.number-number.ensures.number, c.loop-i.places.ok.0)

pub index_mut-requires : goal.index_mut-requires
index_mut-requires c =
    let low = number_below c.args.pieces c.loop-i.i c.args.given.now c.loop-i.places.items c.index-given-i.result c.requires c.loop-i-test.true c.loop-i.invariant c.index-given-i.is in
    omega (arith, low.1, c.number-number.ensures.number, c.loop-i.places.ok.0)

pub returns-then-is_some-clause-fault : goal.returns-then-is_some-clause-fault
returns-then-is_some-clause-fault c =
    inr (
      refl,
      comes_twice c.args.pieces c.loop-i.i c.args.given.now c.loop-i.places.items c.index-given-i.result c.index.result.now c.requires c.loop-i-test.true c.loop-i.invariant c.index-given-i.is
          (c.index.ensures ∙ ap (λ m. get_or c.loop-i.places.items m c.index.result.now) c.number-number.ensures.number)
          (some_place c.index.result.now (sym c.is_some.ensures ∙ c.if-is_some.true)),
    )

pub loop-i-preserved : goal.loop-i-preserved
loop-i-preserved c =
    rw c.number-number.ensures.number
    (next_placed c.args.pieces c.loop-i.i c.args.given.now c.loop-i.places.items c.index-given-i.result c.index.result.now c.requires c.loop-i-test.true c.loop-i.invariant c.index-given-i.is
    (c.index.ensures ∙ ap (λ m. get_or c.loop-i.places.items m c.index.result.now) c.number-number.ensures.number)
    (no_place c.index.result.now (sym c.is_some.ensures ∙ c.if-is_some.false)))
