-- The node stands in the tree where it was asked for.
use Rattle.std.proofs.Common.{[], length, ap, arith}
use Rattle.maptree.proofs.Near.{IsNodeAt, read_is}
use Rattle.maptree.proofs.Positions.{length-links}
use Rattle.maptree.proofs.nodes.Nodes.at.Goals as goal

there : (c : goal.After-at) → IsNodeAt c.args.self.now c.args.i c.at.result
there c = read_is c.self.inside.nodes c.args.i c.at.result c.args.self.now c.self.view_is c.self.invariant c.requires c.at.ensures.node

pub at-requires : goal.at-requires
at-requires c =
    let size = ap length c.self.view_is in
    let count = length-links [] c.self.inside.nodes in
    omega (arith, size, count, c.requires)

pub returns-clause-place : goal.returns-clause-place
returns-clause-place c = (there c).place

pub returns-clause-only : goal.returns-clause-only
returns-clause-only c = (there c).only

pub returns-clause-depth : goal.returns-clause-depth
returns-clause-depth c = (there c).depth

pub returns-clause-upto : goal.returns-clause-upto
returns-clause-upto c = (there c).upto
