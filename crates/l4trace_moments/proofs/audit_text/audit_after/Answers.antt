-- The records were answered, and what is held was written.
use Rattle.std.proofs.Common.{sym, ap, ◌∙◌}
use Rattle.model.specs.Definitions.Calls.{Limits}
use Rattle.model.specs.Definitions.Records.{are_limits}
use Rattle.mapdb.specs.State.{laid_out, new_state}
use Rattle.l4trace_moments.proofs.Moments.{audit_is}
use Rattle.l4trace_moments.proofs.audit_text.audit_after.Goals as goal

pub returns : goal.returns
returns g c =
    let limits = c.limits-limits.ensures in
    let layout = c.in_ok-database.database.layout in
    audit_is c.args.bytes.now c.args.at c.in_ok-count.count c.unwrap_or-records.result c.in_ok-reader.reader c.in_ok-database.database c.answer_records.new.database _
    c.in_ok-reader.ensures.ok (sym (ap are_limits limits) ∙ c.in_ok-database.ensures.served) c.in_ok-count.ensures c.unwrap_or-records.ensures
    (c.in_ok-database.ensures.new ∙ ap (λ (l : Limits). laid_out (new_state l) layout) limits) c.in_ok-answer_records.ensures.left c.in_ok-text.ensures.text
