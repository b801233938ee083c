-- No place stands twice, so one that stands there is found there.
use Rattle.std.proofs.Common.{◌≡◌, true, rules, sym, ap, ◌∙◌, arith}
use Rattle.std.specs.Prelude.{reverse}
use Rattle.std.proofs.lemmas.List.{length-reverse}
use Rattle.space.specs.Place.{same_place}
use Rattle.space.specs.declared.node.Node.{Node}
use Rattle.maptree.proofs.Standing.{stands_at}
use Rattle.maptree.proofs.backward.find.Goals as goal

pub returns-then-eq : goal.returns-then-eq
returns-then-eq c =
    let size = length-reverse c.args.backward.now in
    let same : same_place c.args.place c.node_at.result.place ≡ true = search rules in
    sym (stands_at (reverse c.args.backward.now) c.args.place c.args.near c.node_at.result c.requires (omega (arith, size, c.if-near-backward.true))
    (ap (λ (n : Node). same_place c.args.place n.place) (sym c.node_at.ensures) ∙ same))

pub returns-then-eq-2 : goal.returns-then-eq-2
returns-then-eq-2 c =
    let size = length-reverse c.args.backward.now in
    let same : same_place c.args.place c.node_at-in-loop-i.result.place ≡ true = search rules in
    sym (stands_at (reverse c.args.backward.now) c.args.place c.loop-i.i c.node_at-in-loop-i.result c.requires (omega (arith, size, c.loop-i-test.true))
    (ap (λ (n : Node). same_place c.args.place n.place) (sym c.node_at-in-loop-i.ensures) ∙ same))
