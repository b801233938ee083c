-- What is held is lawful, and listed by place.
use Rattle.std.proofs.Common.{subst}
use Rattle.holdings.specs.Contents.{IsConsistent}
use Rattle.holdings.proofs.Contents.Consistent.{consistent}
use Rattle.holdings.proofs.mappings.Mappings.limits.Goals as goal

pub returns-clause-consistent : goal.returns-clause-consistent
returns-clause-consistent c = subst IsConsistent c.self.view_is (consistent c.self.inside.shards.now c.self.inside.trees.now c.self.invariant.0)
