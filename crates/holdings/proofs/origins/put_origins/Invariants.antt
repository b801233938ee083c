-- The origins of the places so far, and those that are left.
use Rattle.std.proofs.Common.{◌≡◌, ◌-◌, ◌≤◌, drop, length}
use Rattle.holdings.proofs.Contents.WordOrigins.{ArePutUpTo}
use Rattle.holdings.proofs.origins.put_origins.Given as goal

abbrev pub invariant-loop-place : goal.invariant-loop-place
invariant-loop-place l = record {
  left : l.links ≡ drop (length l.initial.links - length l.links) l.initial.links;
  few : length l.links ≤ length l.initial.links;
  put : ArePutUpTo l.shards l.initial.links l.initial.origins (length l.initial.links - length l.links) l.origins;
}

-- there are fewer of them
abbrev pub decreases-loop-place : goal.decreases-loop-place
decreases-loop-place l = length l.links
