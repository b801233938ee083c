-- The records that a check counts are those that the replay refuses.
use Rattle.std.proofs.Common.{◌≡◌, ℕ, suc, ◌+◌, ◌≤◌, Bool, true, false, cond, List, [], ◌∷◌, map, length, is_some, Option, Some, None, Ok, Err, if◌then◌else◌, refl, sym, ap, ◌∙◌, arith}
use Rattle.std.proofs.lemmas.List.Sums.{sum_by-cons}
use Rattle.model.specs.Definitions.Holdings.{Holdings}
use Rattle.model.specs.Definitions.Calls.{Limits, Call, send, access, unmap, clear, Refusal, Request, Reply}
use Rattle.model.specs.Definitions.Answers.{answer, call_answer, call_refusal, unless_refused}
use Rattle.model.specs.Definitions.Replay.{replay, start}
use Rattle.model.specs.Definitions.Records.{Fields, Version, Header, are_limits, bad_header, bad_limits, checked_header, records_of, request, trace_of, trace_of_records, with_header}
use Rattle.model.specs.Definitions.Text.{is_refused, refused_count}
use Rattle.trace.specs.Trace.{named_header}
use Rattle.trace.specs.Unread.{Unread, IsOpened}
use Rattle.l4trace_checks.specs.declared.check.Found.{Found}
use Rattle.l4trace_checks.specs.declared.check.Found.TheVariants.{BadHeader, BadLimits, Records}
use Rattle.l4trace_checks.specs.Check.{CountsRest, IsFound, is_refused_record, refusal_in, refused_among}

-- a record is answered by a refusal where it is refused, whatever is held
answered : (limits : Limits) (h : Holdings) (r : Request) → is_refused (answer limits h r).reply ≡ is_some (refusal_in limits r)
answered limits h (Err r) = refl
answered limits h (Ok call) = by (call_refusal limits call)
  where
    accepted : (c : Call) → is_refused (call_answer h c).reply ≡ false
    accepted (send from to window items) = refl
    accepted (access p a) = refl
    accepted (unmap space f words) = refl
    accepted (clear space) = refl

    by : (o : Option Refusal) → is_refused (unless_refused o h (call_answer h call)).reply ≡ is_some o
    by None = accepted call
    by (Some r) = refl

-- the replies to some records, whatever is held
abbrev replies_to : Version → Limits → Holdings → List Fields → List Reply
replies_to version limits h rows = (replay (answer limits) h (map (request version limits) rows)).replies

refused_replies : (version : Version) (limits : Limits) (rows : List Fields) (h : Holdings) → refused_count (replies_to version limits h rows) ≡ refused_among version limits rows
refused_replies version limits [] h = refl
refused_replies version limits (row ∷ rows) h =
    let first = answer limits h (request version limits row) in
    sum_by-cons (λ x. cond (is_refused x) 1 0) first.reply (replies_to version limits first.left rows)
    ∙ (λ i. cond (answered limits h (request version limits row) i) 1 0 + refused_replies version limits rows first.left i)
    ∙ sym (sum_by-cons (λ x. cond (is_refused_record version limits x) 1 0) row rows)

reply_each : (version : Version) (limits : Limits) (rows : List Fields) (h : Holdings) → length (replies_to version limits h rows) ≡ length rows
reply_each version limits [] h = refl
reply_each version limits (row ∷ rows) h = ap suc (reply_each version limits rows (answer limits h (request version limits row)).left)

-- ---- headers

-- bytes without a header are no trace
pub no_header : (bytes : List ℕ) → named_header (records_of bytes) ≡ None → trace_of bytes ≡ Err bad_header
no_header bytes is = by (records_of bytes) is
  where
    by : (rows : List Fields) → named_header rows ≡ None → trace_of_records request rows ≡ Err bad_header
    by [] named = refl
    by (header ∷ rows) named = ap (λ o. with_header request rows (checked_header o)) named

-- what the header that was read names
abbrev header_of : Unread → Header
header_of u = record { version = u.version; limits = u.limits }

-- the trace of a header that was read, by whether its limits are served
opened : (bytes : List ℕ) (u : Unread) → IsOpened bytes u → (served : Bool) → are_limits u.limits ≡ served
    → trace_of bytes ≡ with_header request u.records (if served then Ok (header_of u) else Err bad_limits)
opened bytes u head served is =
    ap (trace_of_records request) head.records
    ∙ ap (λ o. with_header request u.records (checked_header o)) head.names
    ∙ ap (λ b. with_header request u.records (if b then Ok (header_of u) else Err bad_limits)) is

-- limits that are not served
pub no_limits : (bytes : List ℕ) (u : Unread) → IsOpened bytes u → are_limits u.limits ≡ false → trace_of bytes ≡ Err bad_limits
no_limits bytes u head is = opened bytes u head false is

-- what was counted behind a header is counted of the replay
pub found_behind : (bytes : List ℕ) (u : Unread) (found : Found) → IsOpened bytes u → are_limits u.limits ≡ true → CountsRest u.version u.limits u.records found → IsFound bytes found
found_behind bytes u BadHeader head served counted = absurd counted
found_behind bytes u BadLimits head served counted = absurd counted
found_behind bytes u (Records records refused) head served counted = record {
  trace = record { limits = u.limits; requests = map (request u.version u.limits) u.records };
  is = opened bytes u head true served;
  all = counted.0 ∙ sym (reply_each u.version u.limits u.records (start u.limits));
  some = counted.1 ∙ sym (refused_replies u.version u.limits u.records (start u.limits));
}

-- ---- records one by one

-- so many records were counted and so many of them are refused; these are left
pub record Counted (version : Version) (limits : Limits) (all left : List Fields) (records refused : ℕ) : Type 0 where
  pub records_are : records + length left ≡ length all
  pub refused_are : refused + refused_among version limits left ≡ refused_among version limits all
  pub fewer : refused ≤ records

-- one record more
pub counted_one : (version : Version) (limits : Limits) (all left : List Fields) (row : Fields) (records refused : ℕ) (is : Bool) → is_refused_record version limits row ≡ is
    → Counted version limits all (row ∷ left) records refused → Counted version limits all left (records + 1) (refused + cond is 1 0)
counted_one version limits all left row records refused is same so_far =
    let more : refused_among version limits (row ∷ left) ≡ cond is 1 0 + refused_among version limits left = sum_by-cons (λ x. cond (is_refused_record version limits x) 1 0) row left ∙ ap (λ b. cond b 1 0 + refused_among version limits left) same in
    record {
      records_are = omega (arith, so_far.records_are);
      refused_are = omega (arith, so_far.refused_are, more);
      fewer = by is so_far.fewer;
    }
  where
    by : (b : Bool) → refused ≤ records → refused + cond b 1 0 ≤ records + 1
    by true le = omega arith
    by false le = omega arith
