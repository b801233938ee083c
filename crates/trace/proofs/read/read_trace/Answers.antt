-- One record more is the first of those that were left.
use Rattle.std.proofs.Common.{◌≡◌, ◌++◌, ◌∷◌, [], rules}
use Rattle.trace.proofs.Readings.{so_far-taken}
use Rattle.trace.proofs.read.read_trace.Goals as goal

pub loop-records-preserved : goal.loop-records-preserved
loop-records-preserved c =
    let pushed : c.push.new.self.items ≡ c.loop-records.records.items ++ c.in-Some.record ∷ [] = search rules in
    so_far-taken c.loop-records.reader c.next_record.new.self c.loop-records.invariant c.in_ok-record.field-0 c.in-Some.record (cc c.in-Some.is)
    c.in_ok-record.ensures.next c.in_ok-record.ensures.version c.in_ok-record.ensures.taken c.push.new.self.items pushed
