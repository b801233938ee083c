-- The records up to the one before were answered, and then this one.
use Rattle.std.proofs.Common.{sym, ap, ◌∙◌}
use Rattle.model.specs.Definitions.Calls.{Limits}
use Rattle.model.specs.Definitions.Records.{are_limits}
use Rattle.mapdb.specs.State.{laid_out, new_state}
use Rattle.l4trace_moments.proofs.Moments.{moment_is}
use Rattle.l4trace_moments.proofs.moment.moment_at.Goals as goal

pub returns : goal.returns
returns g c =
    let limits = c.limits-limits.ensures in
    let layout = c.in_ok-database.database.layout in
    moment_is c.args.bytes.now c.args.at c.in_ok-count.count c.saturating_sub-earlier.result c.in_ok-reader.reader c.answer_records.new.reader
    c.in_ok-database.database c.answer_records.new.database c.answer_last.new.database _
    c.in_ok-reader.ensures.ok (sym (ap are_limits limits) ∙ c.in_ok-database.ensures.served) c.in_ok-count.ensures c.min-records.ensures c.saturating_sub-earlier.ensures
    (c.in_ok-database.ensures.new ∙ ap (λ (l : Limits). laid_out (new_state l) layout) limits) c.in_ok-answer_records.ensures.taken c.in_ok-answer_records.ensures.version c.in_ok-answer_records.ensures.left c.in_ok-reply.ensures.left c.in_ok-reply.ensures.reply
    c.in_ok-before.ensures c.in_ok-after.ensures
