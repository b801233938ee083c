-- What is left is no less deep.
use Rattle.std.proofs.Common.{◌≡◌, ◌≤◌, ◌++◌, ◌+◌, ◌-◌, take, drop, ap, ◌∙◌, rules, arith, length}
use Rattle.std.proofs.lemmas.List.{length-append, length-take-le, length-drop}
use Rattle.maptree.specs.Blocks.{is_least}
use Rattle.maptree.proofs.Depths.{least_take, least_drop, least_append, behind_removed}
use Rattle.maptree.proofs.BlockChanges.{closed}
use Rattle.maptree.proofs.block.Block.remove.Goals as goal

within : (c : goal.After-truncate) → c.args.to ≤ length c.self.inside.nodes.items
within c = let size = ap length c.self.view_is in omega (arith, size, c.requires.rising, c.requires.within)

-- the nodes behind the gap are moved down into it
items : (c : goal.After-truncate) → c.truncate.new.self.items ≡ take c.args.from c.self.inside.nodes.items ++ drop c.args.to c.self.inside.nodes.items
items c =
    let nodes = c.self.inside.nodes.items in
    c.truncate.ensures.items ∙ ap (take (c.args.from + (c.len-len.result - c.args.to))) c.copy_within.ensures.items ∙ closed nodes c.args.from c.args.to c.len-len.result c.requires.rising (within c) (search (rules, arith))

pub invariant_of-self : goal.invariant_of-self
invariant_of-self c =
    let nodes = c.self.inside.nodes.items in
    let least = c.self.inside.least in
    let is = items c in
    let both = length-append (take c.args.from nodes) (drop c.args.to nodes) in
    let front = length-take-le c.args.from nodes (omega (arith, within c, c.requires.rising)) in
    let back = length-drop c.args.to nodes in
    let few : length nodes ≤ 128 = c.self.invariant.0 in
    let same = ap length is in
    let size : length c.truncate.new.self.items ≤ 128 = omega (arith, both, front, back, few, same, within c, c.requires.rising) in (
      size,
      search (rules, arith),
      ap (is_least least) is ∙ least_append least (take c.args.from nodes) (drop c.args.to nodes) (least_take least c.args.from nodes c.self.invariant.2)
          (least_drop least c.args.to nodes c.self.invariant.2),
      ap (λ ns. is_least c.self.inside.behind (drop 1 ns)) is ∙ behind_removed c.self.inside.behind c.args.from c.args.to nodes c.requires.rising c.self.invariant.3,
    )
