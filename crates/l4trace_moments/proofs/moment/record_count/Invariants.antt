-- So many records were read, and the others are left.
use Rattle.std.proofs.Common.{◌≡◌, ◌+◌, length}
use Rattle.l4trace_moments.proofs.moment.record_count.Given as goal

abbrev pub invariant-loop-reader : goal.invariant-loop-reader
invariant-loop-reader l = l.count + length l.reader.records ≡ length l.initial.reader.records

-- there are fewer of them
abbrev pub decreases-loop-reader : goal.decreases-loop-reader
decreases-loop-reader l = length l.reader.records
