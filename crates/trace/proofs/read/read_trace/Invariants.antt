-- the records so far, and those that are left
use Rattle.std.proofs.Common.{length}
use Rattle.mapdb.specs.Held.{limits_of}
use Rattle.trace.proofs.Readings.{SoFar}
use Rattle.trace.proofs.read.read_trace.Given as goal

abbrev pub invariant-loop-records : goal.invariant-loop-records
invariant-loop-records l = SoFar l.fn.bytes l.reader.version (limits_of l.limits) l.records.items l.reader.records

-- there are fewer of them
abbrev pub decreases-loop-records : goal.decreases-loop-records
decreases-loop-records l = length l.reader.records
