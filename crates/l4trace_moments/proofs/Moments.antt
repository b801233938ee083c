-- What records leave, one after another.
use Rattle.std.proofs.Common.{◌≡◌, ℕ, zero, suc, Bool, ◌+◌, ◌-◌, List, [], ◌∷◌, ◌++◌, take, drop, map, length, min, true, false, nat_lt, Option, Some, None, Result, Ok, Err, IfErr, OnOk, if◌then◌else◌, inl, inr, refl, sym, ap, ◌∙◌, arith}
use Rattle.std.proofs.lemmas.List.{take-map, drop-map, take-append-drop, take-take, drop-take, length-map}
use Rattle.std.specs.List.{zip}
use Rattle.std.specs.Option.{option_map, unwrap_or}
use Rattle.fpage.specs.Fpage.{Flexpage}
use Rattle.model.specs.Definitions.Holdings.{Holdings}
use Rattle.model.specs.Definitions.Strip.{strip}
use Rattle.model.specs.Definitions.Calls.{Limits, Request, unmap, no_such_space}
use Rattle.model.specs.Definitions.Answers.{answer, pages_in, unless_refused, unmap_answer, unmapped_answer}
use Rattle.model.specs.Definitions.Replay.{replay, start}
use Rattle.model.specs.Definitions.Records.{Fields, Version, Header, Trace, are_limits, bad_limits, checked_header, request, trace_of, trace_of_records, with_header}
use Rattle.model.specs.Definitions.Text.{audit_lines}
use Rattle.mapdb.specs.Calls.{reply_of}
use Rattle.mapdb.specs.Held.{Layout, mapped_of}
use Rattle.mapdb.specs.State.{State, IsRefused, error_of, laid_out, left_with, new_state, unmap_left, unmap_refusal}
use Rattle.mapdb.specs.declared.error.DbError.{DbError}
use Rattle.mapdb.specs.declared.error.DbError.TheVariants.{NoSuchSpace, Halted}
use Rattle.trace.specs.Unread.{Unread, IsOpened, first_request}
use Rattle.l4trace_drawings.specs.declared.moment.Moment.{Moment}
use Rattle.l4trace_moments.specs.Moment.{left_by, held_after, first_reply, reply_to, IsAuditAfter, IsMoment, IsRecordCount}

-- ---- records

-- some records, and then others
left_append : (version : Version) (limits : Limits) (xs ys : List Fields) (h : Holdings) → left_by version limits (xs ++ ys) h ≡ left_by version limits ys (left_by version limits xs h)
left_append version limits [] ys h = refl
left_append version limits (x ∷ xs) ys h = left_append version limits xs ys (answer limits h (request version limits x)).left

-- the first records, and then those behind them
pub left_more : (version : Version) (limits : Limits) (n m : ℕ) (xs : List Fields) (h : Holdings) → left_by version limits (take m (drop n xs)) (left_by version limits (take n xs) h) ≡ left_by version limits (take (n + m) xs) h
left_more version limits n m xs h =
    let all = take (n + m) xs in
    let front : take n all ≡ take n xs = take-take n (n + m) xs (omega arith) in
    sym (left_append version limits (take n xs) (take m (drop n xs)) h)
    ∙ ap (λ l. left_by version limits l h) ((λ i. sym front i ++ sym (drop-take n m xs) i) ∙ take-append-drop n all)

-- the first record, by what it asks for
pub left_first : (version : Version) (limits : Limits) (rows : List Fields) (h : Holdings) (r : Request) → first_request version limits rows ≡ Some r → left_by version limits (take 1 rows) h ≡ (answer limits h r).left
left_first version limits [] h r is = cc
left_first version limits (f ∷ rows) h r is =
    let same : request version limits f ≡ r = cc in
    ap (λ x. (answer limits h x).left) same

-- ---- an unmap

-- what it leaves, in the parts that the database gives
pub unmap_leaves : (space : ℕ) (f : Bool) (words : List ℕ) (fpages : List Flexpage) (h : Holdings) → length fpages ≡ length words
    → (unmap_answer space f (zip words fpages) h).left ≡ unmap_left space f fpages h
unmap_leaves space f [] [] h same = refl
unmap_leaves space f [] (p ∷ fpages) h same = absurd (omega (arith, same))
unmap_leaves space f (w ∷ words) [] h same = absurd (omega (arith, same))
unmap_leaves space f (w ∷ words) (p ∷ fpages) h same = unmap_leaves space f words fpages (strip h (pages_in space p) p.rights f) (omega (arith, same))

-- ---- a trace

-- the trace of a header that was read, whose limits are served
abbrev pub trace_behind : Unread → Trace
trace_behind u = record { limits = u.limits; requests = map (request u.version u.limits) u.records }

pub opened_trace : (bytes : List ℕ) (u : Unread) → IsOpened bytes u → are_limits u.limits ≡ true → trace_of bytes ≡ Ok (trace_behind u)
opened_trace bytes u head served =
    let header : Header = record { version = u.version; limits = u.limits } in
    ap (trace_of_records request) head.records
    ∙ ap (λ o. with_header request u.records (checked_header o)) head.names
    ∙ ap (λ b. with_header request u.records (if b then Ok header else Err bad_limits)) served

-- what it holds after so many records
pub held_by : (u : Unread) (n : ℕ) → left_by u.version u.limits (take n u.records) (start u.limits) ≡ held_after (trace_behind u) n
held_by u n = ap (λ l. (replay (answer u.limits) (start u.limits) l).last) (sym (take-map (request u.version u.limits) n u.records))

-- how many records it has
pub count_is : (bytes : List ℕ) (u : Unread) (n : ℕ) → IsOpened bytes u → IsRecordCount bytes n → n ≡ length (trace_behind u).requests
count_is bytes u n head count =
    let all = ap length head.records in
    let each = length-map u.records (request u.version u.limits) in
    omega (arith, all, each, count)

-- ---- databases

-- one record more
pub left_step : (version : Version) (s d : State) (layout : Layout) (rows left : List Fields) (i : ℕ) → left ≡ drop i rows
    → d ≡ laid_out (left_with s (left_by version s.limits (take i rows) s.holdings)) d.layout
    → laid_out (left_with d (left_by version d.limits (take 1 left) d.holdings)) layout ≡ laid_out (left_with s (left_by version s.limits (take (i + 1) rows) s.holdings)) layout
left_step version s d layout rows left i left_is d_is =
    (λ j. laid_out (left_with (d_is j) (left_by version (d_is j).limits (take 1 (left_is j)) (d_is j).holdings)) layout)
    ∙ ap (λ h. laid_out (left_with s h) layout) (left_more version s.limits i 1 rows s.holdings)

-- what leaves the layout leaves some layout
pub settled : (s new : State) (h : Holdings) → new ≡ left_with s h → new ≡ laid_out (left_with s h) new.layout
settled s new h is = is ∙ ap (laid_out (left_with s h)) (sym (ap (λ (t : State). t.layout) is))

-- what an unmap that was answered leaves
pub unmapped : {A : Type 0} (s new : State) (space : ℕ) (f : Bool) (words : List ℕ) (fpages : List Flexpage) (r : Result A DbError) → length fpages ≡ length words
    → IsRefused (unmap_refusal s space) s new r → OnOk r (new ≡ left_with s (unmap_left space f fpages s.holdings)) → (IfErr r (λ e. e ≡ NoSuchSpace))
    → new ≡ left_with s (answer s.limits s.holdings (Ok (unmap space f (zip words fpages)))).left
unmapped {A} s new space f words fpages (Ok v) same refused left why = by s.is_halted (nat_lt space s.limits.spaces) refused
  where
    by : (halted there : Bool) → IsRefused {A = A} (if halted then Some Halted else option_map error_of (if there then None else Some no_such_space)) s new (Ok v)
        → new ≡ left_with s (unless_refused (if there then None else Some no_such_space) s.holdings (unmapped_answer (unmap_answer space f (zip words fpages) s.holdings))).left
    by true there refused = absurd (cc refused.0)
    by false true refused = left ∙ ap (left_with s) (sym (unmap_leaves space f words fpages s.holdings same))
    by false false refused = absurd (cc refused.0)
unmapped {A} s new space f words fpages (Err e) same refused left why = by s.is_halted (nat_lt space s.limits.spaces) refused
  where
    by : (halted there : Bool) → IsRefused {A = A} (if halted then Some Halted else option_map error_of (if there then None else Some no_such_space)) s new (Err e)
        → new ≡ left_with s (unless_refused (if there then None else Some no_such_space) s.holdings (unmapped_answer (unmap_answer space f (zip words fpages) s.holdings))).left
    by true there refused = absurd (cc (refused.0, why))
    by false true refused = absurd (elim refused as (λ _. ⊥) [ inl memory ↦ cc (memory, why) | inr worker ↦ cc (worker, why) ])
    by false false refused = refused.1

-- the first of some requests, and of those of some records
first_alone : (limits : Limits) (f : Fields → Request) (rows : List Fields) (h : Holdings) → first_reply limits (map f (take 1 rows)) h ≡ first_reply limits (map f rows) h
first_alone limits f [] h = refl
first_alone limits f (x ∷ xs) h = refl

-- the reply to a record
reply_is : (u : Unread) (n e : ℕ) → e ≡ n - 1 → first_reply u.limits (map (request u.version u.limits) (take (n - e) (drop e u.records))) (held_after (trace_behind u) e) ≡ reply_to (trace_behind u) n
reply_is u zero e is =
    let none : 0 - e ≡ 0 = omega arith in
    rw none refl
reply_is u (suc k) e is =
    let same : e ≡ k = omega (arith, is) in
    let one : (suc k) - e ≡ 1 = omega (arith, is) in
    let f = request u.version u.limits in
    rw (one, same) (first_alone u.limits f (drop k u.records) (held_after (trace_behind u) k) ∙ ap (λ l. first_reply u.limits l (held_after (trace_behind u) k)) (sym (drop-map f k u.records)))

-- what is held around a record
pub moment_is : (bytes : List ℕ) (at count earlier : ℕ) (u u1 : Unread) (d0 d1 d2 : State) (m : Moment)
    → IsOpened bytes u → are_limits u.limits ≡ true → IsRecordCount bytes count → m.records ≡ min at count → earlier ≡ m.records - 1
    → d0 ≡ laid_out (new_state u.limits) d0.layout → u1.records ≡ drop earlier u.records → u1.version ≡ u.version → d1 ≡ laid_out (left_with d0 (left_by u.version d0.limits (take earlier u.records) d0.holdings)) d1.layout
    → d2 ≡ laid_out (left_with d1 (left_by u1.version d1.limits (take (m.records - earlier) u1.records) d1.holdings)) d2.layout
    → option_map reply_of m.reply ≡ first_reply d1.limits (map (request u1.version d1.limits) (take (m.records - earlier) u1.records)) d1.holdings
    → map mapped_of m.before.items ≡ d1.holdings → map mapped_of m.after.items ≡ d2.holdings → IsMoment bytes at m
moment_is bytes at count earlier u u1 d0 d1 d2 m head served counted records earlier_is d0_is left same d1_is d2_is reply before after =
    let trace = trace_behind u in
    let holds : State → Holdings = λ s. s.holdings in
    let first : d1 ≡ laid_out (left_with (new_state u.limits) (left_by u.version u.limits (take earlier u.records) (start u.limits))) d1.layout =
    d1_is ∙ (λ j. laid_out (left_with (d0_is j) (left_by u.version (d0_is j).limits (take earlier u.records) (d0_is j).holdings)) d1.layout) in
    let second : d2 ≡ laid_out (left_with (new_state u.limits) (left_by u.version u.limits (take (m.records - earlier) (drop earlier u.records)) (left_by u.version u.limits (take earlier u.records) (start u.limits)))) d2.layout =
    d2_is ∙ (λ j. laid_out (left_with (first j) (left_by (same j) (first j).limits (take (m.records - earlier) (left j)) (first j).holdings)) d2.layout) in
    let whole : earlier + (m.records - earlier) ≡ m.records = omega (arith, earlier_is) in
    record {
      trace = trace;
      is = opened_trace bytes u head served;
      records = records ∙ ap (min at) (count_is bytes u count head counted);
      reply = reply ∙ (λ j. first_reply (first j).limits (map (request (same j) (first j).limits) (take (m.records - earlier) (left j))) (first j).holdings)
          ∙ ap (first_reply u.limits (map (request u.version u.limits) (take (m.records - earlier) (drop earlier u.records)))) (held_by u earlier) ∙ reply_is u m.records earlier earlier_is;
      before = before ∙ ap holds first ∙ held_by u earlier ∙ ap (held_after trace) earlier_is;
      after = after ∙ ap holds second ∙ left_more u.version u.limits earlier (m.records - earlier) u.records (start u.limits) ∙ ap (λ n. left_by u.version u.limits (take n u.records) (start u.limits)) whole ∙ held_by u m.records;
    }

-- the audit of what is held after so many records
pub audit_is : (bytes : List ℕ) (at : Option ℕ) (count n : ℕ) (u : Unread) (d0 d1 : State) (text : List ℕ)
    → IsOpened bytes u → are_limits u.limits ≡ true → IsRecordCount bytes count → n ≡ unwrap_or at count
    → d0 ≡ laid_out (new_state u.limits) d0.layout → d1 ≡ laid_out (left_with d0 (left_by u.version d0.limits (take n u.records) d0.holdings)) d1.layout
    → text ≡ audit_lines d1.holdings → IsAuditAfter bytes at text
audit_is bytes at count n u d0 d1 text head served counted n_is d0_is d1_is text_is =
    let trace = trace_behind u in
    let holds : State → Holdings = λ s. s.holdings in
    let first : d1 ≡ laid_out (left_with (new_state u.limits) (left_by u.version u.limits (take n u.records) (start u.limits))) d1.layout =
    d1_is ∙ (λ j. laid_out (left_with (d0_is j) (left_by u.version (d0_is j).limits (take n u.records) (d0_is j).holdings)) d1.layout) in
    record {
      trace = trace;
      is = opened_trace bytes u head served;
      lines = text_is ∙ ap audit_lines (ap holds first ∙ held_by u n ∙ ap (held_after trace) (n_is ∙ ap (unwrap_or at) (count_is bytes u count head counted)));
    }
