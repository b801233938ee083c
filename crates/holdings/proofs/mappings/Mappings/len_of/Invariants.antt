-- The pages are of the space.
use Rattle.std.proofs.Common.{◌≤◌, ◌-◌}
use Rattle.space.specs.Directory.{pages_of}
use Rattle.holdings.proofs.mappings.Mappings.len_of.Given as goal

abbrev pub invariant-loop-page : goal.invariant-loop-page
invariant-loop-page l = l.page ≤ pages_of l.self.limits.bits

abbrev pub decreases-loop-page : goal.decreases-loop-page
decreases-loop-page l = pages_of l.self.limits.bits - l.page
