-- One more of the frame.
use Rattle.std.proofs.Common.{◌≡◌, ◌==◌, ◌<◌, ◌+◌, ◌-◌, Bool, length, take, drop, get_or, sym, ap, ◌∙◌, arith, length-drop, get_or-drop}
use Rattle.std.specs.List.{list_all}
use Rattle.std.proofs.lemmas.Bool.{and_from, eq-eqb}
use Rattle.std.proofs.lemmas.List.Folds.{list_all_more}
use Rattle.holdings.proofs.group.group_end.Goals as goal

pub loop-i-preserved : goal.loop-i-preserved
loop-i-preserved g c =
    let xs = drop c.args.from c.args.items.now in
    let k = c.loop-i.i - c.args.from in
    let x = c.index-items-i.result in
    let count : c.loop-i.i + 1 - c.args.from ≡ k + 1 = omega (arith, c.loop-i.auto.i) in
    let within : k < length xs = omega (arith, c.loop-i.auto.i, c.loop-i-test.true, length-drop c.args.from c.args.items.now) in
    let place : c.args.from + k ≡ c.loop-i.i = omega (arith, c.loop-i.auto.i) in
    let there : get_or xs k x ≡ x = get_or-drop c.args.from c.args.items.now k x ∙ ap (λ n. get_or c.args.items.now n x) place ∙ sym c.index-items-i.is in
    let same : g.T.OfFrame.frame_of (get_or xs k x) ≡ c.frame-frame.result = ap g.T.OfFrame.frame_of there ∙ sym c.frame.ensures ∙ c.if-frame.false in
    let test : g.row.T.Denot → Bool = λ y. g.T.OfFrame.frame_of y == c.frame-frame.result in
    ap (λ n. list_all test (take n xs)) count ∙ list_all_more test xs k x within
    ∙ and_from (list_all test (take k xs)) (test (get_or xs k x)) c.loop-i.invariant (eq-eqb (g.T.OfFrame.frame_of (get_or xs k x)) c.frame-frame.result same)
