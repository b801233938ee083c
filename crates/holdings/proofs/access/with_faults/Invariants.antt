-- The answers so far, with those to come, are all.
use Rattle.std.proofs.Common.{◌≡◌, ◌≤◌, ◌++◌, drop, map}
use Rattle.holdings.specs.Inner.Faults.{is_there, with_faults}
use Rattle.holdings.proofs.access.with_faults.Given as goal

abbrev pub invariant-loop-place : goal.invariant-loop-place
invariant-loop-place l = record {
  all : l.answers.items ++ with_faults (map (is_there l.shards) (drop l.place-index l.accesses)) (drop l.next l.made.items) ≡ with_faults (map (is_there l.shards) l.accesses) l.made.items;
  few : l.next ≤ l.place-index;
}
