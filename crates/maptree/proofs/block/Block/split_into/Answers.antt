-- Of the front the least depth is taken anew; behind its first node there are fewer.
use Rattle.std.proofs.Common.{◌≤◌, drop, ap, ◌∙◌, rules, arith, length}
use Rattle.maptree.specs.Blocks.{is_least}
use Rattle.maptree.proofs.Depths.{behind_take}
use Rattle.maptree.proofs.block.Block.split_into.Goals as goal

pub invariant_of-self : goal.invariant_of-self
invariant_of-self c =
    let behind = c.self.inside.behind in
    let size : length c.truncate.new.self.items ≤ 128 = search (rules, arith) in
    let room : 128 ≤ c.truncate.new.self.cap = search (rules, arith) in (
      size,
      room,
      search rules,
      ap (λ ns. is_least behind (drop 1 ns)) c.truncate.ensures.items ∙ behind_take behind c.args.at c.self.inside.nodes.items c.self.invariant.3,
    )
