-- Less is no more.
use Rattle.std.proofs.Common.{◌≤◌, sym, ap, ◌∙◌, rules, arith}
use Rattle.maptree.specs.Blocks.{is_least}
use Rattle.maptree.proofs.Depths.{least_less}
use Rattle.maptree.proofs.block.Block.least.Goals as goal

pub returns : goal.returns
returns c =
    let low : c.min.result ≤ c.self.inside.least = search (rules, arith) in
    ap (is_least c.min.result) (sym c.self.view_is) ∙ least_less c.min.result c.self.inside.least c.self.inside.nodes.items low c.self.invariant.2
