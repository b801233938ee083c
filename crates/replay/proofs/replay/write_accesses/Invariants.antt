-- The lines so far are those of the answers so far.
use Rattle.std.proofs.Common.{◌≡◌, ◌++◌, map, take}
use Rattle.model.specs.Definitions.Calls.{accessed}
use Rattle.model.specs.Definitions.Text.{reply_lines}
use Rattle.replay.specs.Steps.{PassesOn}
use Rattle.replay.proofs.replay.write_accesses.Given as goal

abbrev pub invariant-loop-i : goal.invariant-loop-i
invariant-loop-i g l = record {
  lines_are : PassesOn (g.W.Sink.contents l.fn.writer) (g.W.Sink.contents l.writer) (l.fn.lines ++ reply_lines l.number (map accessed (take l.i l.answers))) l.lines;
  works : g.W.Sink.failed l.writer ≡ g.W.Sink.failed l.fn.writer;
}
