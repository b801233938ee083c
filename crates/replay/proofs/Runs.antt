-- From the trace that was read to the input that the reader had.
use Rattle.std.proofs.Common.{◌≡◌, ℕ, zero, suc, ◌-◌, Bool, true, false, ◌∙◌, List, ◌∷◌, ◌++◌, map, length, Option, Some, None, Result, Ok, Err, IfOk, IfErr, IfSome, OnOk, [], refl, sym, ap, subst, arith, append_assoc, append-nil}
use Rattle.std.specs.Io.KnownBytes.{Appends, Keeps}
use Rattle.crew.specs.declared.error.CrewError.TheVariants as crew
use Rattle.model.specs.Definitions.Calls.{Limits}
use Rattle.model.specs.Definitions.Replay.{Told}
use Rattle.model.specs.Definitions.Records.{Fields, Trace, Version, trace_of, trace_of_records, records_of, request, are_limits, bad_header, bad_limits}
use Rattle.model.specs.Definitions.Text.{told, reply_lines, refused_count, audit_lines, end_line}
use Rattle.trace.specs.Trace.{LacksHeader, named_header}
use Rattle.trace.specs.Unread.{Unread, IsOpened, IsFaultIn}
use Rattle.trace.specs.declared.read.TraceError.{TraceError}
use Rattle.trace.specs.declared.read.TraceError.TheVariants as fault
use Rattle.replay.specs.declared.replay.Replayed.{Replayed}
use Rattle.replay.specs.declared.replay.Summary.{Summary}
use Rattle.replay.specs.declared.error.RunError.{RunError}
use Rattle.replay.specs.declared.error.RunError.TheVariants.{BadHeader, BadLimits, NoMemory, NoWorker, Unreadable, WriteFailed}
use Rattle.replay.specs.Error.{IsOfTrace}
use Rattle.replay.specs.Run.{WritesReplay, EndsEarly, WritesNothing, TellsStreams}
use Rattle.replay.specs.Steps.{AwaitsAudit, StopsInput, StopsEarly, StopsAt, StartsNot}
use Rattle.replay.proofs.Passing.{appends_same, passes_end, passes_rest}
use Rattle.replay.proofs.Steps.{SoFar, stopped}
use Rattle.replay.proofs.Streams.{closed, err_from}

-- the requests of the records
abbrev pub trace_from : Unread → Trace
trace_from u = record { limits = u.limits; requests = map (request u.version u.limits) u.records }

-- limits that are served make it a trace
pub served : (input : List ℕ) (u : Unread) → IsOpened input u → are_limits u.limits ≡ true → trace_of input ≡ Ok (trace_from u)
served input u is limits = rw (is.records, is.names, limits) refl

-- limits that are not served make it none
unserved : (input : List ℕ) (u : Unread) → IsOpened input u → are_limits u.limits ≡ false → trace_of input ≡ Err bad_limits
unserved input u is limits = rw (is.records, is.names, limits) refl

-- nor are bytes without a header one
headless : (input : List ℕ) → LacksHeader input → trace_of input ≡ Err bad_header
headless input = of_records (records_of input)
  where
    of_records : (rows : List Fields) → named_header rows ≡ None → trace_of_records request rows ≡ Err bad_header
    of_records [] lacks = refl
    of_records (header ∷ rest) lacks = rw lacks refl

-- ---- why the records of the input are not all answered

-- it was not opened
pub fault_stops : (input : List ℕ) (now : Option (List ℕ)) (failed : Bool) (why : TraceError) (e : RunError) → IsFaultIn input why → IsOfTrace why e → Keeps now now → StopsInput input now now failed failed e
fault_stops input now failed fault.Unreadable e is of keeps = absurd is
fault_stops input now failed fault.BadHeader e is of keeps = subst (λ x. StopsInput input now now failed failed x) (sym of) (headless input is, keeps, refl)
fault_stops input now failed fault.NoMemory e is of keeps = subst (λ x. StopsInput input now now failed failed x) (sym of) (keeps, refl)

-- there is no database
pub start_stops : (input : List ℕ) (u : Unread) (now : Option (List ℕ)) (failed : Bool) (e : RunError) → IsOpened input u → StartsNot u.limits e → Keeps now now → StopsInput input now now failed failed e
start_stops input u now failed BadLimits is stop keeps = (unserved input u is stop, keeps, refl)
start_stops input u now failed (NoMemory zero) is stop keeps = (keeps, refl)
start_stops input u now failed (NoMemory (suc k)) is stop keeps = absurd stop
start_stops input u now failed BadHeader is stop keeps = absurd stop
start_stops input u now failed (NoWorker n) is stop keeps = absurd stop
start_stops input u now failed Unreadable is stop keeps = absurd stop
start_stops input u now failed WriteFailed is stop keeps = absurd stop

-- the replies were not all written
pub trace_stops : (input : List ℕ) (trace : Trace) (old new : Option (List ℕ)) (was failed : Bool) → trace_of input ≡ Ok trace → (e : RunError) → StopsEarly (told trace) old new was failed e → StopsInput input old new was failed e
trace_stops input trace old new was failed is (NoMemory zero) stop = absurd stop
trace_stops input trace old new was failed is (NoMemory (suc k)) stop = (record { trace = trace; is_trace = is; stopped = stop.0 }, stop.1)
trace_stops input trace old new was failed is (NoWorker zero) stop = absurd stop
trace_stops input trace old new was failed is (NoWorker (suc k)) stop = (record { trace = trace; is_trace = is; stopped = stop.0; there = stop.1 }, stop.2)
trace_stops input trace old new was failed is WriteFailed stop = (record { trace = trace; is_trace = is }, stop)
trace_stops input trace old new was failed is BadHeader stop = absurd stop
trace_stops input trace old new was failed is BadLimits stop = absurd stop
trace_stops input trace old new was failed is Unreadable stop = absurd stop

-- ---- the audit

-- no record is left
pub awaits : {version : Version} {limits : Limits} {old now : Option (List ℕ)} (input : List ℕ) (trace : Trace) → trace_of input ≡ Ok trace → (r : Replayed) → SoFar (told trace) version limits [] r.database.holdings r.number old now r.lines r.refused
    → r.database.is_halted ≡ false → AwaitsAudit input old now r
awaits {version} {limits} {old} {now} input trace is r s running =
    let all : (told trace).replies ≡ s.done = ap (λ (x : Told). x.replies) s.told ∙ append-nil s.done in
    record {
      trace = trace;
      is_trace = is;
      lines_are = rw all s.lines_are;
      last = sym (ap (λ (x : Told). x.last) s.told);
      number = rw all s.count;
      refused = rw all s.refused_is;
      running = running;
    }

-- the audit and the end line follow
whole : {input : List ℕ} {old mid : Option (List ℕ)} {r : Replayed} → AwaitsAudit input old mid r → (new : Option (List ℕ)) → Appends mid new (r.lines ++ (audit_lines r.database.holdings ++ end_line (r.number - 1) r.refused))
    → WritesReplay input old new (record { records = r.number - 1; refused = r.refused })
whole {input} {old} {mid} {r} a new closing =
    let t = told a.trace in
    let count : r.number - 1 ≡ length t.replies = omega (arith, a.number) in
    let front = reply_lines 1 t.replies in
    let tail : (audit_lines r.database.holdings ++ end_line (r.number - 1) r.refused) ≡ audit_lines t.last ++ end_line (length t.replies) (refused_count t.replies) = λ i. audit_lines (a.last i) ++ end_line (count i) (a.refused i) in
    let all = passes_end a.lines_are new (audit_lines r.database.holdings ++ end_line (r.number - 1) r.refused) closing in
    record {
      trace = a.trace;
      is_trace = a.is_trace;
      replayed = record { written = rw append_assoc (appends_same old new (ap (λ x. front ++ x) tail) all); records = count; refused = a.refused };
    }

-- or there is no memory for them
unclosed : {input : List ℕ} {old mid : Option (List ℕ)} {r : Replayed} → AwaitsAudit input old mid r → (new : Option (List ℕ)) (was is failed : Bool) (e : RunError) → is ≡ was → StopsAt crew.NoMemory r.number r.lines mid new is failed e → StopsInput input old new was failed e
unclosed {input} {old} {mid} {r} a new was is failed (NoMemory zero) same stop = absurd (omega (arith, stop.0, a.number))
unclosed {input} {old} {mid} {r} a new was is failed (NoMemory (suc k)) same stop =
    let t = told a.trace in
    (record { trace = a.trace; is_trace = a.is_trace; stopped = stopped t.replies [] new (sym (append-nil t.replies)) (passes_rest a.lines_are new stop.1) k (omega (arith, stop.0, a.number)) }, stop.2 ∙ same)
unclosed a new was is failed (NoWorker n) same stop = absurd (cc stop.0)
unclosed a new was is failed WriteFailed same stop = (record { trace = a.trace; is_trace = a.is_trace }, stop)
unclosed a new was is failed BadHeader same stop = absurd stop
unclosed a new was is failed BadLimits same stop = absurd stop
unclosed a new was is failed Unreadable same stop = absurd stop

pub closing_whole : {input : List ℕ} {old mid : Option (List ℕ)} {r : Replayed} → AwaitsAudit input old mid r → (new : Option (List ℕ)) (result : Result Summary RunError) → IfOk result (λ s. s ≡ record { records = r.number - 1; refused = r.refused })
    → OnOk result (Appends mid new (r.lines ++ (audit_lines r.database.holdings ++ end_line (r.number - 1) r.refused))) → IfOk result (WritesReplay input old new)
closing_whole {input} {old} {mid} {r} a new result is written = closed result (record { records = r.number - 1; refused = r.refused }) _ (WritesReplay input old new) is written (λ w. whole a new w)

pub closing_stops : {input : List ℕ} {old mid : Option (List ℕ)} {r : Replayed} → AwaitsAudit input old mid r → (new : Option (List ℕ)) (was is failed : Bool) (result : Result Summary RunError) → is ≡ was
    → IfErr result (StopsAt crew.NoMemory r.number r.lines mid new is failed) → IfErr result (StopsInput input old new was failed)
closing_stops a new was is failed result same stop = err_from result _ _ stop (λ e s. unclosed a new was is failed e same s)

-- ---- the clauses of a run

-- what is so of the bytes that were read is so of the input
of_input : (P : List ℕ → Type 0) (known : Option (List ℕ)) (bytes : List ℕ) → IfSome known (λ input. bytes ≡ input) → P bytes → IfSome known P
of_input P None bytes is p = tt
of_input P (Some input) bytes is p = subst P is p

pub replayed : (known : Option (List ℕ)) (bytes : List ℕ) (old new : Option (List ℕ)) (r : Result Summary RunError) → IfSome known (λ input. bytes ≡ input) → IfOk r (WritesReplay bytes old new) → IfOk r (λ s. IfSome known (λ input. WritesReplay input old new s))
replayed known bytes old new (Ok s) is w = of_input (λ input. WritesReplay input old new s) known bytes is w
replayed known bytes old new (Err e) is w = tt

ends : (input : List ℕ) (old new : Option (List ℕ)) (was failed : Bool) (e : RunError) → StopsInput input old new was failed e → EndsEarly input old new e
ends input old new was failed BadHeader stop = stop.0
ends input old new was failed BadLimits stop = stop.0
ends input old new was failed (NoMemory zero) stop = tt
ends input old new was failed (NoMemory (suc k)) stop = stop.0
ends input old new was failed (NoWorker zero) stop = absurd stop
ends input old new was failed (NoWorker (suc k)) stop = stop.0
ends input old new was failed Unreadable stop = absurd stop
ends input old new was failed WriteFailed stop = stop.0

pub ended : (known : Option (List ℕ)) (bytes : List ℕ) (old new : Option (List ℕ)) (was failed : Bool) (r : Result Summary RunError) → IfSome known (λ input. bytes ≡ input) → IfErr r (StopsInput bytes old new was failed) → IfErr r (λ e. IfSome known (λ input. EndsEarly input old new e))
ended known bytes old new was failed (Ok s) is stop = tt
ended known bytes old new was failed (Err e) is stop = of_input (λ input. EndsEarly input old new e) known bytes is (ends bytes old new was failed e stop)

pub nothing : (bytes : List ℕ) (old new : Option (List ℕ)) (was failed : Bool) (r : Result Summary RunError) → IfErr r (StopsInput bytes old new was failed) → IfErr r (WritesNothing old new)
nothing bytes old new was failed (Ok s) stop = tt
nothing bytes old new was failed (Err BadHeader) stop = stop.1
nothing bytes old new was failed (Err BadLimits) stop = stop.1
nothing bytes old new was failed (Err (NoMemory zero)) stop = stop.0
nothing bytes old new was failed (Err (NoMemory (suc k))) stop = tt
nothing bytes old new was failed (Err (NoWorker zero)) stop = absurd stop
nothing bytes old new was failed (Err (NoWorker (suc k))) stop = tt
nothing bytes old new was failed (Err Unreadable) stop = absurd stop
nothing bytes old new was failed (Err WriteFailed) stop = tt

pub streams : (bytes : List ℕ) (old new : Option (List ℕ)) (reader was failed : Bool) (r : Result Summary RunError) → reader ≡ false → was ≡ false → IfErr r (StopsInput bytes old new was failed) → IfErr r (TellsStreams reader failed)
streams bytes old new reader was failed (Ok s) reads writes stop = tt
streams bytes old new reader was failed (Err BadHeader) reads writes stop = (reads, stop.2 ∙ writes)
streams bytes old new reader was failed (Err BadLimits) reads writes stop = (reads, stop.2 ∙ writes)
streams bytes old new reader was failed (Err (NoMemory zero)) reads writes stop = (reads, stop.1 ∙ writes)
streams bytes old new reader was failed (Err (NoMemory (suc k))) reads writes stop = (reads, stop.1 ∙ writes)
streams bytes old new reader was failed (Err (NoWorker zero)) reads writes stop = absurd stop
streams bytes old new reader was failed (Err (NoWorker (suc k))) reads writes stop = (reads, stop.1 ∙ writes)
streams bytes old new reader was failed (Err Unreadable) reads writes stop = absurd stop
streams bytes old new reader was failed (Err WriteFailed) reads writes stop = (reads, stop.1)
