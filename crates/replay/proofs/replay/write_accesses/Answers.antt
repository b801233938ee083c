-- One more line is that of the next answer.
use Rattle.std.proofs.Common.{◌+◌, ◌∙◌, false, get_or, subst, refl, arith, List, ℕ}
use Rattle.model.specs.Definitions.Calls.{accessed}
use Rattle.model.specs.Definitions.Text.{reply_line}
use Rattle.replay.specs.Steps.{PassesOn}
use Rattle.replay.proofs.Passing.{passes_more}
use Rattle.replay.proofs.Replays.{line_more}
use Rattle.replay.proofs.Stops.{stops_within}
use Rattle.replay.proofs.Streams.{err_of}
use Rattle.replay.proofs.replay.write_accesses.Goals as goal

pub loop-i-preserved : goal.loop-i-preserved
loop-i-preserved g c =
    let contents = g.W.Sink.contents in
    let answer = get_or c.args.answers.now c.loop-i.i false in
    let lines = passes_more c.loop-i.invariant.lines_are (reply_line (c.args.number + c.loop-i.i) (accessed answer)) c.in_ok-write_line.ensures.ok in
    record {
      lines_are = subst (λ (t : List ℕ). PassesOn (contents c.args.writer.now) (contents c.write_line.new.writer) t c.write_line.new.lines) (line_more c.args.number c.loop-i.i c.args.answers.now c.args.lines.now answer c.loop-i-test.true refl) lines;
      works = c.in_ok-write_line.ensures.works ∙ c.loop-i.invariant.works;
    }

pub returns-in_err-write_line-clause-err : goal.returns-in_err-write_line-clause-err
returns-in_err-write_line-clause-err g c =
    let contents = g.W.Sink.contents in
    let failed = g.W.Sink.failed in
    err_of c.from_residual.result c.in_err-write_line.field-0.0 _ c.from_residual.ensures.1
    (stops_within c.args.number c.loop-i.i c.args.answers.now c.args.lines.now c.loop-i.lines (contents c.args.writer.now) (contents c.loop-i.writer) (contents c.write_line.new.writer)
    (failed c.args.writer.now) (failed c.loop-i.writer) (failed c.write_line.new.writer) c.in_err-write_line.field-0.0 (omega (arith, c.loop-i-test.true)) c.loop-i.invariant.works c.loop-i.invariant.lines_are c.in_err-write_line.ensures.err)
