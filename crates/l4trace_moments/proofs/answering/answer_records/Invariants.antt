-- The records so far were answered, and those behind them are left.
use Rattle.std.proofs.Common.{◌≡◌, take, drop}
use Rattle.mapdb.specs.State.{laid_out, left_with}
use Rattle.l4trace_moments.specs.Moment.{left_by}
use Rattle.l4trace_moments.proofs.answering.answer_records.Given as goal

abbrev pub invariant-loop-i : goal.invariant-loop-i
invariant-loop-i g l = record {
  records : l.reader.records ≡ drop l.i l.fn.reader.records;
  version : l.reader.version ≡ l.fn.reader.version;
  left : l.database ≡ laid_out (left_with l.fn.database (left_by l.fn.reader.version l.fn.database.limits (take l.i l.fn.reader.records) l.fn.database.holdings)) l.database.layout;
}
