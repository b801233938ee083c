-- One part more.
use Rattle.std.proofs.Common.{◌≡◌, ◌+◌, suc, length, drop, get_or, ap, rules, arith}
use Rattle.space.specs.Slices.{nodes_of}
use Rattle.maptree.specs.Cuts.{count_of}
use Rattle.maptree.proofs.Parts.{parts_from}
use Rattle.maptree.proofs.node_list.kept_up_to.Goals as goal

pub loop-part-preserved : goal.loop-part-preserved
loop-part-preserved c =
    let parts = c.args.parts.now in
    let i = c.loop-part.part-index in
    let part = get_or parts i c.part-item.result in
    let one : suc i ≡ i + 1 = omega arith in
    let here = ap count_of (parts_from parts i c.part-item.result c.loop-part-test.true) in
    let next = ap (λ n. count_of (drop n (nodes_of parts))) one in
    let size : c.len-more.result ≡ length part.nodes.items = search (rules, arith) in
    let so_far = c.loop-part.invariant.count in
    record { count = omega (arith, here, next, size, so_far); upto = search (rules, arith) }
