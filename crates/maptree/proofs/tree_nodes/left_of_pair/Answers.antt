-- What is left of a pair stands before the first range.
use Rattle.std.proofs.Common.{◌<◌, ℕ, length, take, sym, ap, ◌∙◌, arith, rules}
use Rattle.std.specs.declared.ops.Range.{Range}
use Rattle.maptree.specs.TreeForms.{root_of, below_of, two_nodes, nodes_of_pair}
use Rattle.maptree.proofs.Alone.{pair_left, first_behind}
use Rattle.maptree.proofs.tree_nodes.left_of_pair.Goals as goal

pub returns-then-ranges-eq0-clause-nodes : goal.returns-then-ranges-eq0-clause-nodes
returns-then-ranges-eq0-clause-nodes c =
    let d : Range ℕ = record { start = 0; end = 0 } in
    let some : 0 < length c.args.ranges.now = search (rules, arith) in
    let left = pair_left (root_of c.args.pair.now) (below_of c.args.pair.now) c.args.ranges.now d c.requires.rising some c.requires.forest in
    sym (left ∙ ap (λ k. take k (nodes_of_pair c.args.pair.now)) c.if-ranges-eq0.true)

pub returns-else-ranges-eq0-clause-nodes : goal.returns-else-ranges-eq0-clause-nodes
returns-else-ranges-eq0-clause-nodes c =
    let d : Range ℕ = record { start = 0; end = 0 } in
    let some : 0 < length c.args.ranges.now = search (rules, arith) in
    let left = pair_left (root_of c.args.pair.now) (below_of c.args.pair.now) c.args.ranges.now d c.requires.rising some c.requires.forest in
    let first = first_behind c.args.ranges.now d c.requires.rising some c.if-ranges-eq0.false in
    ap (λ p. take 1 (two_nodes p (below_of c.args.pair.now))) c.root.ensures ∙ sym (left ∙ ap (λ k. take k (nodes_of_pair c.args.pair.now)) first)
