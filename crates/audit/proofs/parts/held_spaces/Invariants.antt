-- What the spaces so far hold, with what those to come do, is all.
use Rattle.std.proofs.Common.{◌≡◌, ◌++◌, flat_map}
use Rattle.mapdb.specs.Held.{held_from}
use Rattle.holdings.proofs.Contents.FromPages.{from_space}
use Rattle.audit.proofs.parts.held_spaces.Given as goal

abbrev pub invariant-loop-space : goal.invariant-loop-space
invariant-loop-space l = (flat_map (λ s. held_from l.mappings s 0) l.spaces.items ++ from_space l.mappings l.space) ≡ l.mappings.holdings
