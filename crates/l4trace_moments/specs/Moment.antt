-- What a trace holds after so many of its records.
use Rattle.std.specs.Prelude.{◌≡◌, ℕ, zero, suc, ◌+◌, ◌-◌, List, [], ◌∷◌, map, take, drop, length, min, Option, Some, None, option_map, unwrap_or, Ok}
use Rattle.model.specs.Definitions.Holdings.{Holdings}
use Rattle.model.specs.Definitions.Calls.{Limits, Reply, Request}
use Rattle.model.specs.Definitions.Answers.{answer}
use Rattle.model.specs.Definitions.Replay.{replay, start}
use Rattle.model.specs.Definitions.Records.{Fields, Version, Trace, records_of, request, trace_of}
use Rattle.model.specs.Definitions.Text.{audit_lines}
use Rattle.mapdb.specs.Held.{mapped_of}
use Rattle.mapdb.specs.Calls.{reply_of}
use Rattle.l4trace_drawings.specs.declared.moment.Moment.{Moment}

-- what these records of a trace of a version leave of what was held
abbrev pub left_by : Version → Limits → List Fields → Holdings → Holdings
left_by version limits rows h = (replay (answer limits) h (map (request version limits) rows)).last

-- what is held after the first so many records of a trace
abbrev pub held_after : Trace → ℕ → Holdings
held_after t n = (replay (answer t.limits) (start t.limits) (take n t.requests)).last

-- the reply to the first of some requests
abbrev pub first_reply : Limits → List Request → Holdings → Option Reply
first_reply limits [] h = None
first_reply limits (r ∷ rs) h = Some (answer limits h r).reply

-- the reply to the record with this number, if there is one
abbrev pub reply_to : Trace → ℕ → Option Reply
reply_to t zero = None
reply_to t (suc n) = first_reply t.limits (drop n t.requests) (held_after t n)

-- behind the first record of the bytes stand so many
abbrev pub IsRecordCount : List ℕ → ℕ → Type 0
IsRecordCount bytes n = length (records_of bytes) ≡ n + 1

-- the bytes are a trace; so many of its records were answered, or all where there are fewer; the reply is that to the last
-- of them, and the mappings are those that are held before and after it
pub record IsMoment (bytes : List ℕ) (at : ℕ) (m : Moment) : Type 0 where
  pub trace : Trace
  pub is : trace_of bytes ≡ Ok trace
  pub records : m.records ≡ min at (length trace.requests)
  pub reply : option_map reply_of m.reply ≡ reply_to trace m.records
  pub before : map mapped_of m.before.items ≡ held_after trace (m.records - 1)
  pub after : map mapped_of m.after.items ≡ held_after trace m.records

-- the text is the audit of what a trace holds after so many records, or after all if no number is given
pub record IsAuditAfter (bytes : List ℕ) (at : Option ℕ) (text : List ℕ) : Type 0 where
  pub trace : Trace
  pub is : trace_of bytes ≡ Ok trace
  pub lines : text ≡ audit_lines (held_after trace (unwrap_or at (length trace.requests)))
