-- The records so far asked for the accesses behind the first.
use Rattle.std.specs.List.{All}
use Rattle.std.proofs.Common.{◌≡◌, ◌-◌, ◌<◌, length}
use Rattle.mapdb.specs.Held.{limits_of, IsWithin}
use Rattle.trace.specs.Unread.{past}
use Rattle.replay.proofs.Answering.{AskedSoFar}
use Rattle.replay.proofs.answer.read_accesses.Given as goal

abbrev pub invariant-loop-access : goal.invariant-loop-access
invariant-loop-access l = record {
  asked : AskedSoFar l.fn.trace.version (limits_of l.limits) l.fn.first l.fn.trace.records l.trace.records l.accesses.items;
  within : All (λ access. IsWithin (limits_of l.limits) access.0) l.accesses.items;
  some : 0 < length l.accesses.items;
  taken : l.trace ≡ past (length l.accesses.items - 1) l.fn.trace;
}

-- there are fewer of them
abbrev pub decreases-loop-access : goal.decreases-loop-access
decreases-loop-access l = length l.trace.records
