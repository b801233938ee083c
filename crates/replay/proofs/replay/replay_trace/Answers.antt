-- The database at the start is that of the trace's limits, which are served. Records add their replies, and then come the audit and
-- the end line.
use Rattle.std.proofs.Common.{◌≡◌, ◌+◌, true, [], length, sym, subst, ap, refl, ◌∙◌, Err}
use Rattle.std.proofs.KnownBytes.{Keeps-refl}
use Rattle.model.specs.Definitions.Calls.{Limits}
use Rattle.model.specs.Definitions.Records.{are_limits}
use Rattle.mapdb.specs.State.{State, laid_out, left_with, new_state}
use Rattle.trace.specs.Unread.{Unread}
use Rattle.replay.specs.Steps.{StartsNot, replies_of}
use Rattle.replay.proofs.Runs.{trace_from, served, fault_stops, start_stops, trace_stops, awaits}
use Rattle.replay.proofs.Stops.{among_no_worker, at_no_worker}
use Rattle.replay.proofs.Streams.{err_of, fault_of}
use Rattle.replay.proofs.Steps.{AreNext, so_far-start, so_far-more, so_far-same, so_far-stop, so_far-among, none_left, some_left}
use Rattle.replay.proofs.replay.replay_trace.Goals as goal

pub loop-alloc-init : goal.loop-alloc-init
loop-alloc-init g c =
    let started = c.in_ok-database.ensures.ok in
    let u = c.in_ok-trace.trace in
    let layout = c.in_ok-database.database.layout in
    let is = started.new ∙ ap (λ (l : Limits). laid_out (new_state l) layout) c.limits.ensures in
    let s = new_state u.limits in
    record {
      served = subst (λ (l : Limits). are_limits l ≡ true) c.limits.ensures started.served;
      so_far = rw (c.new-lines.ensures, is) (so_far-start u.version s.limits u.records s.holdings c.number-number.result (g.W.Sink.contents c.args.writer.now) (c.number-number.ensures ∙ c.in_ok-trace.ensures.ok.number));
      works = refl;
      keeps = rw is refl;
      number = c.number-number.ensures;
      version = refl;
    }

pub loop-alloc-preserved : goal.loop-alloc-preserved
loop-alloc-preserved g c =
    let before = c.loop-alloc.invariant in
    let limits = ap (λ (s : State). s.limits) before.keeps in
    let now = c.answer_first.new.database in
    let replies = replies_of c.in-Ok.replies in
    let next : AreNext c.in_ok-trace.trace.version c.in_ok-trace.trace.limits c.loop-alloc.trace.records c.loop-alloc.database.holdings replies now.holdings = record { within = c.in-Ok.ensures.within; told = rw (limits, before.version) at c.in-Ok.ensures.told } in
    let written = c.in_ok-refusals.ensures in
    let more = so_far-more before.so_far next (g.W.Sink.contents c.write_replies.new.writer) c.write_replies.new.lines written.ok c.in_ok-refusals.refusals written.refused in
    let taken = c.in-Ok.ensures.taken in
    let rows = ap (λ (u : Unread). u.records) taken in
    let number = c.number-next.ensures ∙ ap (λ (u : Unread). u.number) taken ∙ ap (λ n. n + length replies) (sym before.number) in
    record {
      served = before.served;
      so_far = so_far-same more c.answer_first.new.trace.records c.number-next.result rows number;
      works = written.works ∙ before.works;
      keeps = c.in-Ok.ensures.keeps ∙ ap (λ (s : State). laid_out (left_with s now.holdings) now.layout) before.keeps;
      number = c.number-next.ensures;
      version = ap (λ (u : Unread). u.version) taken ∙ before.version;
    }

-- where the lines of some replies are there
pub returns-in_err-refusals-clause-err : goal.returns-in_err-refusals-clause-err
returns-in_err-refusals-clause-err g c =
    let bytes = c.args.bytes in
    let u = c.in_ok-trace.trace in
    let opened = c.in_ok-trace.ensures.ok in
    let contents = g.W.Sink.contents in
    let failed = g.W.Sink.failed in
    let before = c.loop-alloc.invariant in
    let limits = ap (λ (s : State). s.limits) before.keeps in
    let replies = replies_of c.in-Ok.replies in
    let next : AreNext c.in_ok-trace.trace.version c.in_ok-trace.trace.limits c.loop-alloc.trace.records c.loop-alloc.database.holdings replies c.answer_first.new.database.holdings = record { within = c.in-Ok.ensures.within; told = rw (limits, before.version) at c.in-Ok.ensures.told } in
    let e = c.in_err-refusals.field-0.0 in
    err_of c.from_residual-in_err-refusals.result e _ c.from_residual-in_err-refusals.ensures.1
    (trace_stops bytes (trace_from u) (contents c.args.writer.now) (contents c.write_replies.new.writer) (failed c.args.writer.now) (failed c.write_replies.new.writer) (served bytes u opened before.served) e
    (so_far-among before.so_far next (contents c.write_replies.new.writer) (failed c.args.writer.now) (failed c.loop-alloc.writer) (failed c.write_replies.new.writer) e before.works c.in_err-refusals.ensures.err))

-- where a record was not answered
pub returns-in-Err-clause-err : goal.returns-in-Err-clause-err
returns-in-Err-clause-err g c =
    let bytes = c.args.bytes in
    let u = c.in_ok-trace.trace in
    let opened = c.in_ok-trace.ensures.ok in
    let contents = g.W.Sink.contents in
    let failed = g.W.Sink.failed in
    let before = c.loop-alloc.invariant in
    let some = some_left c.loop-alloc.trace.records c.loop-alloc-test.ensures in
    trace_stops bytes (trace_from u) (contents c.args.writer.now) (contents c.stop_at.new.writer) (failed c.args.writer.now) (failed c.stop_at.new.writer) (served bytes u opened before.served) c.stop_at.result
    (so_far-stop before.so_far c.in-Err.why (λ _. some) (contents c.stop_at.new.writer) (failed c.args.writer.now) (failed c.loop-alloc.writer) (failed c.stop_at.new.writer) c.stop_at.result before.works c.stop_at.ensures)

-- where the bytes are no trace
pub returns-in_err-trace-clause-err : goal.returns-in_err-trace-clause-err
returns-in_err-trace-clause-err g c =
    let now = g.W.Sink.contents c.args.writer.now in
    let failed = g.W.Sink.failed c.args.writer.now in
    let bytes = c.args.bytes in
    let is = c.in_err-trace.ensures.err in
    fault_of c.from_residual.result _ _ c.from_residual.ensures.1 (λ e of. fault_stops bytes now failed c.in_err-trace.field-0.0 e is of (Keeps-refl now))

-- where there is no database
pub returns-in_err-database-clause-err : goal.returns-in_err-database-clause-err
returns-in_err-database-clause-err g c =
    let now = g.W.Sink.contents c.args.writer.now in
    let failed = g.W.Sink.failed c.args.writer.now in
    let bytes = c.args.bytes in
    let u = c.in_ok-trace.trace in
    let opened = c.in_ok-trace.ensures.ok in
    let e = c.in_err-database.field-0.0 in
    err_of c.from_residual-in_err-database.result e _ c.from_residual-in_err-database.ensures.1 (start_stops bytes u now failed e opened (subst (λ (l : Limits). StartsNot l e) c.limits.ensures c.in_err-database.ensures.err) (Keeps-refl now))

-- where all records are answered
pub returns-clause-ok : goal.returns-clause-ok
returns-clause-ok g c =
    let bytes = c.args.bytes in
    let u = c.in_ok-trace.trace in
    let opened = c.in_ok-trace.ensures.ok in
    let before = c.loop-alloc.invariant in
    let none = none_left c.loop-alloc.trace.records c.loop-alloc-test.ensures in
    let all = so_far-same before.so_far [] c.loop-alloc.number (sym none) refl in
    awaits bytes (trace_from u) (served bytes u opened before.served) (record { database = c.loop-alloc.database; lines = c.loop-alloc.lines; number = c.loop-alloc.number; refused = c.loop-alloc.refused }) all (ap (λ (s : State). s.is_halted) before.keeps)

-- a worker that is wanting could not be started
pub returns-in-Err-clause-needs_no_worker : goal.returns-in-Err-clause-needs_no_worker
returns-in-Err-clause-needs_no_worker g c none is =
    let contents = g.W.Sink.contents in
    let failed = g.W.Sink.failed in
    c.in-Err.ensures.needs_no_worker none (ap Err (at_no_worker c.in-Err.why c.loop-alloc.number c.loop-alloc.lines (contents c.loop-alloc.writer) (contents c.stop_at.new.writer) (failed c.loop-alloc.writer) (failed c.stop_at.new.writer) c.stop_at.result c.stop_at.ensures is))

pub returns-in_err-refusals-clause-needs_no_worker : goal.returns-in_err-refusals-clause-needs_no_worker
returns-in_err-refusals-clause-needs_no_worker g c none =
    let contents = g.W.Sink.contents in
    let failed = g.W.Sink.failed in
    let e = c.in_err-refusals.field-0.0 in
    err_of c.from_residual-in_err-refusals.result e _ c.from_residual-in_err-refusals.ensures.1
    (among_no_worker c.loop-alloc.number (replies_of c.in-Ok.replies) c.loop-alloc.lines (contents c.loop-alloc.writer) (contents c.write_replies.new.writer) (failed c.loop-alloc.writer) (failed c.write_replies.new.writer) e c.in_err-refusals.ensures.err)
