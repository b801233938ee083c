-- One more part, and the last.
use Rattle.std.proofs.Common.{◌++◌, ◌∙◌, refl, sym, ap}
use Rattle.replay.proofs.Passing.{passes_none, passes_part, passes_done}
use Rattle.replay.proofs.replay.write_audit.Goals as goal

pub loop-writer-init : goal.loop-writer-init
loop-writer-init g c = record { passed = passes_none (g.W.Sink.contents c.args.writer.now) c.args.report.now.rest; works = refl }

pub loop-writer-preserved : goal.loop-writer-preserved
loop-writer-preserved g c = record {
  passed = passes_part c.loop-writer.invariant.passed (g.W.Sink.contents c.write_all.new.self) c.part.result.now c.next.new.self.rest (c.next.ensures.parts ∙ ap (λ p. p ++ c.next.new.self.rest) (sym c.part.ensures)) c.in_ok-write_all.ensures.bytes;
  works = c.in_ok-write_all.ensures.ok ∙ c.loop-writer.invariant.works;
}

pub returns-clause-bytes : goal.returns-clause-bytes
returns-clause-bytes g c = passes_done c.loop-writer.invariant.passed (c.loop-writer-test.ensures.none refl)
