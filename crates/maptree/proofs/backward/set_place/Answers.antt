-- The node at the position, from the other end.
use Rattle.std.proofs.Common.{◌-◌, length, get_or, set, sym, ap, ◌∙◌, arith}
use Rattle.std.specs.Prelude.{reverse}
use Rattle.std.proofs.lemmas.List.{get_or-reverse}
use Rattle.space.specs.declared.node.Node.{Node}
use Rattle.space.proofs.Lists.{blank, read_any}
use Rattle.maptree.proofs.Reversed.{set_back}
use Rattle.maptree.proofs.backward.set_place.Goals as goal

pub returns : goal.returns
returns c d =
    let nodes = c.args.backward.now in
    let at = length nodes - 1 - c.args.i in
    let read = read_any nodes at blank d (omega (arith, c.requires)) ∙ sym (get_or-reverse nodes c.args.i d c.requires) in
    set_back nodes c.args.i (record { place = c.args.place; depth = (get_or nodes at blank).depth }) c.requires
    ∙ ap (λ (n : Node). set (reverse nodes) c.args.i (record { place = c.args.place; depth = n.depth })) read
