-- Of the audit the parts so far are written, and the rest is left.
use Rattle.std.proofs.Common.{◌≡◌, length}
use Rattle.replay.specs.Steps.{PassesOn}
use Rattle.replay.proofs.replay.write_audit.Given as goal

abbrev pub invariant-loop-writer : goal.invariant-loop-writer
invariant-loop-writer g l = record {
  passed : PassesOn (g.W.Sink.contents l.fn.writer) (g.W.Sink.contents l.writer) l.fn.report.rest l.report.rest;
  works : g.W.Sink.failed l.writer ≡ g.W.Sink.failed l.fn.writer;
}

abbrev pub decreases-loop-writer : goal.decreases-loop-writer
decreases-loop-writer g l = length l.report.rest
