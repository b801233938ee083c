-- What was counted behind the header is counted of the replay.
use Rattle.std.proofs.Common.{rules, ◌≡◌, ℕ, List, true, Result, Ok, Err, IfOk, ap, sym, subst, ◌∙◌}
use Rattle.mapdb.specs.Held.{limits_of}
use Rattle.model.specs.Definitions.Calls.{Limits}
use Rattle.model.specs.Definitions.Records.{are_limits}
use Rattle.trace.specs.Unread.{Unread, IsOpened}
use Rattle.l4trace_checks.specs.declared.check.Found.{Found}
use Rattle.l4trace_checks.specs.Check.{CountsRest, IsFound}
use Rattle.l4trace_checks.proofs.Counting.{found_behind}
use Rattle.l4trace_checks.proofs.check.check_trace.Goals as goal

found : {E : Type 0} (r : Result Found E) (bytes : List ℕ) (u : Unread) (limits : Limits) → IsOpened bytes u → limits ≡ u.limits → are_limits limits ≡ true → IfOk r (CountsRest u.version limits u.records) → IfOk r (IsFound bytes)
found (Ok f) bytes u limits head same served counted =
    let P : Limits → Type 0 = λ l. CountsRest u.version l u.records f in
    found_behind bytes u f head (sym (ap are_limits same) ∙ served) (subst P same counted)
found (Err e) bytes u limits head same served counted = tt

pub returns : goal.returns
returns g c =
    let served : are_limits (limits_of c.limits-limits.result) ≡ true = search rules in
    found c.check_records.result _ c.in-Ok.reader (limits_of c.limits-limits.result) c.in-Ok.ensures.ok c.limits-limits.ensures served c.check_records.ensures
