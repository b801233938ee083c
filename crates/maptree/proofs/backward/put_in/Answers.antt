-- As many nodes stand behind it as before.
use Rattle.std.proofs.Common.{◌≡◌, ◌-◌, length, take, insert, ap, sym, ◌∙◌, arith}
use Rattle.std.specs.Prelude.{reverse}
use Rattle.std.proofs.lemmas.List.{length-take-le}
use Rattle.maptree.proofs.Reversed.{insert_back}
use Rattle.maptree.proofs.backward.put_in.Goals as goal

pub returns : goal.returns
returns c =
    let nodes = c.args.backward.now in
    let front = take (length nodes - 1) nodes in
    let size : length front ≡ length nodes - 1 = length-take-le (length nodes - 1) nodes (omega arith) in
    ap reverse c.shift_in.ensures ∙ ap (λ n. reverse (insert front (n - c.args.i) c.args.node)) (sym size)
    ∙ insert_back front c.args.i c.args.node (omega (arith, size, c.requires))
