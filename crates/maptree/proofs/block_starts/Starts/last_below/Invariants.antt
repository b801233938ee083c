-- Down to a block before which fewer stand, then up to the last one.
use Rattle.std.proofs.Common.{◌≡◌, ◌<◌, ◌-◌, length}
use Rattle.maptree.specs.Blocks.{number_at}
use Rattle.maptree.proofs.block_starts.Starts.last_below.Given as goal

abbrev pub invariant-loop-at : goal.invariant-loop-at
invariant-loop-at l = record {
  within : l.at < length l.self.inside;
  before : l.before ≡ number_at l.self l.at;
}

abbrev pub decreases-loop-at : goal.decreases-loop-at
decreases-loop-at l = l.at

abbrev pub invariant-loop-at-2 : goal.invariant-loop-at-2
invariant-loop-at-2 l = record {
  within : l.at < length l.self.inside;
  before : l.before ≡ number_at l.self l.at;
  below : 0 < l.at → number_at l.self l.at < l.n;
}

abbrev pub decreases-loop-at-2 : goal.decreases-loop-at-2
decreases-loop-at-2 l = l.last - l.at
