-- The mappings so far with those of the spaces to come are all.
use Rattle.std.proofs.Common.{◌≡◌, ◌++◌, map}
use Rattle.holdings.specs.Mappings.{mapped_of}
use Rattle.holdings.proofs.Contents.FromPages.{from_space}
use Rattle.holdings.proofs.mappings.Mappings.list.Given as goal

abbrev pub invariant-loop-space : goal.invariant-loop-space
invariant-loop-space l = (map mapped_of l.list.items ++ from_space l.self l.space) ≡ l.self.holdings
