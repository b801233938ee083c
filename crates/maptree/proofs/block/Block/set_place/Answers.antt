-- Another place changes no depth.
use Rattle.std.proofs.Common.{set, drop, ap, ◌∙◌, rules, arith}
use Rattle.std.proofs.lemmas.List.{length-set}
use Rattle.maptree.specs.Blocks.{is_least}
use Rattle.maptree.proofs.Depths.{least_set, behind_set}
use Rattle.maptree.proofs.block.Block.set_place.Goals as goal

pub invariant_of-self : goal.invariant_of-self
invariant_of-self c =
    let nodes = c.self.inside.nodes.items in
    let least = c.self.inside.least in
    let node = c.index_mut-node.result.now in
    let size = length-set nodes c.args.i (record { place = c.args.place; depth = node.depth }) in
    let same = ap (λ n. is_least least (set nodes c.args.i (record { place = c.args.place; depth = n.depth }))) c.index_mut-node.ensures.value in
    let behind = c.self.inside.behind in
    let same_behind = ap (λ n. is_least behind (drop 1 (set nodes c.args.i (record { place = c.args.place; depth = n.depth })))) c.index_mut-node.ensures.value in (
      search (rules, arith, size),
      c.self.invariant.1,
      same ∙ least_set least c.args.i c.args.place node nodes (search (rules, arith)) c.self.invariant.2,
      same_behind ∙ behind_set behind c.args.i c.args.place node nodes (search (rules, arith)) c.self.invariant.3,
    )
