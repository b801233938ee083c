-- The origin stands before the node, and is read there.
use Rattle.std.proofs.Common.{◌<◌, length, take, get_or, Some, option_map, ap, sym, ◌∙◌, arith}
use Rattle.std.proofs.lemmas.List.{get_or_default, length-take}
use Rattle.std.proofs.Math.Nat.{min-le_right}
use Rattle.space.proofs.Lists.{blank}
use Rattle.maptree.proofs.LastLess.{some_says}
use Rattle.maptree.proofs.node_list.NodeList.place_of_origin.Goals as goal

pub get-requires : goal.get-requires
get-requires c =
    let ns = c.args.self.now.nodes in
    let inside = (some_says (get_or ns c.args.i blank).depth (take c.args.i ns) c.in_ok-origin.origin (sym (c.in_ok-origin.ensures blank))).within in
    let size = length-take c.args.i ns in
    let most = min-le_right c.args.i (length ns) in
    omega (arith, inside, size, most)

pub returns : goal.returns
returns c d =
    let ns = c.args.self.now.nodes in
    let inside = (some_says (get_or ns c.args.i blank).depth (take c.args.i ns) c.in_ok-origin.origin (sym (c.in_ok-origin.ensures blank))).within in
    let size = length-take c.args.i ns in
    let most = min-le_right c.args.i (length ns) in
    let within : c.in_ok-origin.origin < length ns = omega (arith, inside, size, most) in
    ap (λ n. Some n.place) (c.get.ensures.node ∙ get_or_default ns c.in_ok-origin.origin c.get.result d within) ∙ ap (option_map (λ r. (get_or ns r d).place)) (c.in_ok-origin.ensures d)
