-- The records so far are counted, and those of them that are refused.
use Rattle.std.proofs.Common.{◌≡◌, length}
use Rattle.mapdb.specs.Held.{limits_of}
use Rattle.l4trace_checks.proofs.Counting.{Counted}
use Rattle.l4trace_checks.proofs.check.check_records.Given as goal

abbrev pub invariant-loop-places : goal.invariant-loop-places
invariant-loop-places g l = record {
  counted : Counted l.fn.reader.version (limits_of l.limits) l.fn.reader.records l.reader.records l.records l.refused;
  version : l.reader.version ≡ l.fn.reader.version;
}

-- there are fewer of them
abbrev pub decreases-loop-places : goal.decreases-loop-places
decreases-loop-places g l = length l.reader.records
