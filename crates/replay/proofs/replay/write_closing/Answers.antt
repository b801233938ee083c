-- The lines that were left, the audit and the end line, one behind the other.
use Rattle.std.proofs.Common.{◌-◌, ◌++◌, ◌∙◌, sym}
use Rattle.std.proofs.KnownBytes.{Appends-trans, Appends-kept}
use Rattle.model.specs.Definitions.Text.{audit_lines, end_line}
use Rattle.replay.proofs.Passing.{appends_same}
use Rattle.replay.proofs.Streams.{on_ok}
use Rattle.replay.proofs.replay.write_closing.Goals as goal

pub returns-clause-written : goal.returns-clause-written
returns-clause-written g c =
    let contents = g.W.Sink.contents in
    let start = contents c.args.writer.now in
    let behind_lines = contents c.pass_on.new.writer in
    let behind_audit = contents c.write_audit.new.writer in
    let behind_all = contents c.write_all.new.self in
    let last = contents c.flush.new.self in
    let lines = c.args.replayed.lines in
    let audit = audit_lines c.args.replayed.database.holdings in
    let end = end_line (c.args.replayed.number - 1) c.args.replayed.refused in
    let passed = on_ok c.pass_on.result (sym c.is_err.ensures.value ∙ c.if-is_err.false) c.pass_on.ensures.bytes in
    let audited = appends_same behind_lines behind_audit c.in-Ok.ensures.rest (on_ok c.write_audit.result (sym c.is_err-else-is_err.ensures.value ∙ c.if-is_err-2.false) c.write_audit.ensures.bytes) in
    let written = appends_same behind_audit behind_all (c.as_bytes.ensures.value ∙ c.in-Ok-end_text.ensures) (on_ok c.write_all.result (sym c.is_err-else-is_err-2.ensures.value ∙ c.if-is_err-3.false) c.write_all.ensures.bytes) in
    let flushed = on_ok c.flush.result (sym c.is_err-else-is_err-3.ensures.value ∙ c.if-is_err-4.false) c.flush.ensures.bytes in
    let closing = Appends-trans behind_lines behind_audit behind_all audit end audited written in
    Appends-kept start behind_all last (lines ++ (audit ++ end)) (Appends-trans start behind_lines behind_all lines (audit ++ end) passed closing) flushed
