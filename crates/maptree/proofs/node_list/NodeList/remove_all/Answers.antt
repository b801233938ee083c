-- There is room for as many as before.
use Rattle.std.proofs.Common.{rules, arith}
use Rattle.maptree.proofs.node_list.NodeList.remove_all.Goals as goal
use Rattle.maptree.proofs.node_list.NodeList.remove_all.Goals.{in-Few, in-Many}

pub invariant_of-self : goal.invariant_of-self
invariant_of-self c = elim c.match-self.branch [ in-Few w ↦ search (rules, arith, w) | in-Many w ↦ search (rules, arith, w) ]
