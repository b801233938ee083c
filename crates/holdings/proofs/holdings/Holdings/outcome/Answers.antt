-- What is held is consistent.
use Rattle.std.proofs.Common.{subst}
use Rattle.holdings.specs.Contents.{IsConsistent}
use Rattle.holdings.proofs.Contents.Consistent.{consistent}
use Rattle.holdings.proofs.holdings.Holdings.outcome.Goals as goal

pub returns-clause-consistent : goal.returns-clause-consistent
returns-clause-consistent c = subst IsConsistent c.self.view_is (consistent c.self.inside.shards c.self.inside.trees.items c.self.invariant)
