-- A list is changed at once, or its last part and those before it.
use Rattle.std.proofs.Common.{◌≡◌, ◌+◌, length, arith}
use Rattle.crew.proofs.Changed.{given_behind, changed_in_two}
use Rattle.crew.proofs.change.+parts.Goals as goal

pub change_parts-change_both-requires-clause-behind : goal.change_parts-change_both-requires-clause-behind
change_parts-change_both-requires-clause-behind g t c κs within =
    let parts = c.split_at_mut-front in
    let at : length parts.result.0.now ≡ 0 + length parts.result.0.now = omega (arith) in
    given_behind (λ n p. g.F.Fn.pre c.args.change.now (n, (p, tt))) 0 parts.result.0.now parts.result.1.now c.args.trees.now parts.ensures.value c.requires _ at

pub change_parts-returns : goal.change_parts-returns
change_parts-returns g t c =
    let parts = c.split_at_mut-front in
    let at : length parts.result.0.now ≡ 0 + length parts.result.0.now = omega (arith) in
    changed_in_two _ 0 parts.result.0.now c.change_both.new.front parts.result.1.now c.change_both.new.behind c.args.trees.now parts.ensures.value _ at c.change_both.result c.change_both.ensures.front c.change_both.ensures.behind
