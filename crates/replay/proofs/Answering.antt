-- The next records of a trace are answered.
use Rattle.std.proofs.Common.{◌≡◌, ℕ, zero, suc, ◌+◌, ◌-◌, ◌<◌, ◌≤◌, List, [], ◌∷◌, ◌++◌, take, drop, map, length, Some, Ok, Err, refl, sym, ap, ◌∙◌, arith, append_assoc, Bool}
use Rattle.std.proofs.lemmas.List.{length-append, length-map, take_all, take-append-le, map-append, drop-drop}
use Rattle.fpage.specs.declared.rights.Access.{Access}
use Rattle.space.specs.declared.place.Place.{Place}
use Rattle.model.specs.Definitions.Holdings.{Holdings}
use Rattle.model.specs.Definitions.Touch.{touch}
use Rattle.model.specs.Definitions.Calls.{Limits, Reply, accessed, Request, send, access, unmap, clear}
use Rattle.model.specs.Definitions.Answers.{answer}
use Rattle.model.specs.Definitions.Replay.{replay}
use Rattle.model.specs.Definitions.Records.{Fields, Version, request}
use Rattle.mapdb.specs.Held.{access_answers, touched_all}
use Rattle.trace.specs.Unread.{Unread, past, first_request, access_in}
use Rattle.replay.specs.Steps.{told_of, told_behind, asked, AreAsked}

-- ---- a trace, some records later

pub past_none : (u : Unread) → past 0 u ≡ u
past_none u = let sum : u.number + 0 ≡ u.number = omega arith in λ i. record { version = u.version; limits = u.limits; number = sum i; records = u.records }

pub past_past : (n m : ℕ) (u : Unread) → past m (past n u) ≡ past (n + m) u
past_past n m u = let sum : u.number + n + m ≡ u.number + (n + m) = omega arith in λ i. record { version = u.version; limits = u.limits; number = sum i; records = drop-drop m n u.records i }

-- ---- the accesses that come next

-- the first of these records asks for this access
record AsksFirst (version : Version) (limits : Limits) (rows : List Fields) (a : Place × Access) : Type 0 where
  pub fields : Fields
  pub rows_are : rows ≡ fields ∷ drop 1 rows
  pub asks : request version limits fields ≡ asked a

as_asked : (r : Request) (a : Place × Access) → Some a ≡ access_in (Some r) → r ≡ asked a
as_asked (Err e) a is = cc
as_asked (Ok (send from to window items)) a is = cc
as_asked (Ok (access place kind)) a is = cc
as_asked (Ok (unmap space flush words)) a is = cc
as_asked (Ok (clear space)) a is = cc

asks_first : (version : Version) (limits : Limits) (rows : List Fields) (a : Place × Access) → Some a ≡ access_in (first_request version limits rows) → AsksFirst version limits rows a
asks_first version limits [] a is = cc
asks_first version limits (f ∷ rows) a is = record { fields = f; rows_are = refl; asks = as_asked (request version limits f) a is }

-- the records before those that are left asked for the accesses behind the first
pub record AskedSoFar (version : Version) (limits : Limits) (first : Place × Access) (rows left : List Fields) (accesses : List (Place × Access)) : Type 0 where
  pub done : List Fields
  pub others : List (Place × Access)
  pub are : accesses ≡ first ∷ others
  pub rows_are : rows ≡ done ++ left
  pub requests : map (request version limits) done ≡ map asked others

pub asked_start : (version : Version) (limits : Limits) (first : Place × Access) (rows : List Fields) (accesses : List (Place × Access)) → accesses ≡ first ∷ [] → AskedSoFar version limits first rows rows accesses
asked_start version limits first rows accesses are = record { done = []; others = []; are = are; rows_are = refl; requests = refl }

pub asked_more : {version : Version} {limits : Limits} {first : Place × Access} {rows left : List Fields} {accesses : List (Place × Access)} → AskedSoFar version limits first rows left accesses
    → (a : Place × Access) → Some a ≡ access_in (first_request version limits left) → (more : List (Place × Access)) → more ≡ accesses ++ a ∷ [] → AskedSoFar version limits first rows (drop 1 left) more
asked_more {version} {limits} {first} {rows} {left} s a is more are =
    let next = asks_first version limits left a is in
    record {
      done = s.done ++ next.fields ∷ [];
      others = s.others ++ a ∷ [];
      are = are ∙ rw s.are refl;
      rows_are = s.rows_are ∙ ap (λ l. s.done ++ l) next.rows_are ∙ sym (append_assoc s.done (next.fields ∷ []) (drop 1 left));
      requests = map-append (request version limits) s.done (next.fields ∷ []) ∙ rw (s.requests, next.asks) (sym (map-append asked s.others (a ∷ [])));
    }

pub asked_end : {version : Version} {limits : Limits} {first : Place × Access} {rows left : List Fields} {accesses : List (Place × Access)} → AskedSoFar version limits first rows left accesses → AreAsked version limits first rows accesses
asked_end {version} {limits} {first} {rows} {left} s =
    let n : length s.others ≡ length s.done = sym (length-map s.others asked) ∙ ap length (sym s.requests) ∙ length-map s.done (request version limits) in
    let k : length rows ≡ length s.done + length left = ap length s.rows_are ∙ length-append s.done left in
    let front : take (length s.others) rows ≡ s.done = rw (s.rows_are, n) (take-append-le (length s.done) s.done left (omega arith) ∙ take_all (length s.done) s.done (omega arith)) in
    record { others = s.others; are = s.are; within = omega (arith, n, k); requests = ap (map (request version limits)) front ∙ s.requests }

-- the trace is as much later as there are accesses behind the first
pub asked_past : (u now : Unread) (accesses more : List (Place × Access)) (a : Place × Access) → 0 < length accesses → now ≡ past (length accesses - 1) u → more ≡ accesses ++ a ∷ [] → past 1 now ≡ past (length more - 1) u
asked_past u now accesses more a some is are =
    let n : length more ≡ length accesses + 1 = ap length are ∙ length-append accesses (a ∷ []) in
    let sum : length accesses - 1 + 1 ≡ length more - 1 = omega (arith, n) in
    ap (past 1) is ∙ past_past (length accesses - 1) 1 u ∙ ap (λ k. past k u) sum

-- ---- answers

-- accesses one after another
accesses_told : (limits : Limits) (h : Holdings) (accesses : List (Place × Access)) → replay (answer limits) h (map asked accesses) ≡ record { replies = map accessed (access_answers h accesses); last = touched_all h accesses }
accesses_told limits h [] = refl
accesses_told limits h (a ∷ rest) = rw (accesses_told limits (touch h a.0 a.1) rest) refl

answers_count : (h : Holdings) (accesses : List (Place × Access)) → length (map accessed (access_answers h accesses)) ≡ length accesses
answers_count h [] = refl
answers_count h (a ∷ rest) = ap suc (answers_count (touch h a.0 a.1) rest)

-- an access, and those behind it, were answered
pub record AreTold (version : Version) (limits : Limits) (h : Holdings) (first : Request) (u now : Unread) (replies : List Reply) (last : Holdings) : Type 0 where
  pub some : 0 < length replies
  pub within : length replies ≤ length u.records + 1
  pub taken : now ≡ past (length replies - 1) u
  pub told : told_behind version limits first (take (length replies - 1) u.records) h ≡ record { replies = replies; last = last }

pub accesses_are_told : (version : Version) (limits : Limits) (h : Holdings) (u now : Unread) (first : Place × Access) (accesses : List (Place × Access)) → AreAsked version limits first u.records accesses → now ≡ past (length accesses - 1) u
    → (answers : List Bool) → answers ≡ access_answers h accesses → (last : Holdings) → last ≡ touched_all h accesses → AreTold version limits h (asked first) u now (map accessed answers) last
accesses_are_told version limits h u now first accesses a taken answers answered last left =
    let n : length (map accessed answers) ≡ length accesses = ap (λ (l : List Bool). length (map accessed l)) answered ∙ answers_count h accesses in
    let all : length accesses ≡ length a.others + 1 = ap length a.are ∙ omega arith in
    let k : length (map accessed answers) - 1 ≡ length a.others = omega (arith, n, all) in
    record {
      some = omega (arith, n, all);
      within = omega (arith, n, all, a.within);
      taken = taken ∙ ap (λ m. past (m - 1) u) (sym n);
      told = rw (k, a.requests) (ap (λ l. replay (answer limits) h (map asked l)) (sym a.are) ∙ accesses_told limits h accesses ∙ rw (answered, left) refl);
    }

-- the answer to a request is that to the first record, which asks for it
pub first_told : (version : Version) (limits : Limits) (rows : List Fields) (h : Holdings) (r : Request) (n : ℕ) → first_request version limits rows ≡ Some r → 0 < n → told_of version limits (take n rows) h ≡ told_behind version limits r (take (n - 1) (drop 1 rows)) h
first_told version limits [] h r n is some = cc
first_told version limits (f ∷ rows) h r zero is some = absurd (omega arith)
first_told version limits (f ∷ rows) h r (suc n) is some =
    let one : suc n - 1 ≡ n = omega arith in
    let asks : request version limits f ≡ r = cc in
    rw (one, asks) refl

pub some_left : (version : Version) (limits : Limits) (rows : List Fields) (r : Request) → first_request version limits rows ≡ Some r → length rows ≡ length (drop 1 rows) + 1
some_left version limits [] r is = cc
some_left version limits (f ∷ rows) r is = omega arith

-- one reply
pub past_first : (n : ℕ) (u : Unread) → 0 < n → past (n - 1) (past 1 u) ≡ past n u
past_first n u some = let sum : 1 + (n - 1) ≡ n = omega arith in past_past 1 (n - 1) u ∙ ap (λ k. past k u) sum

-- the first record, and those behind it, were answered
pub record AreAnswered (limits : Limits) (h : Holdings) (u now : Unread) (replies : List Reply) (last : Holdings) : Type 0 where
  pub within : length replies ≤ length u.records
  pub taken : now ≡ past (length replies) u
  pub told : told_of u.version limits (take (length replies) u.records) h ≡ record { replies = replies; last = last }

pub first_answered : (limits : Limits) (h : Holdings) (u next now : Unread) (r : Request) (replies : List Reply) (last : Holdings) → first_request u.version limits u.records ≡ Some r → next ≡ past 1 u
    → AreTold next.version limits h r next now replies last → AreAnswered limits h u now replies last
first_answered limits h u next now r replies last asks is a =
    let n = length replies in
    let left = some_left u.version limits u.records r asks in
    let records : length next.records ≡ length (drop 1 u.records) = ap (λ (k : Unread). length k.records) is in
    record {
      within = omega (arith, a.within, left, records);
      taken = a.taken ∙ ap (past (n - 1)) is ∙ past_first n u a.some;
      told = first_told u.version limits u.records h r n asks a.some ∙ ap (λ (k : Unread). told_behind k.version limits r (take (n - 1) k.records) h) (sym is) ∙ a.told;
    }

pub one_answered : (limits : Limits) (h : Holdings) (u next : Unread) (r : Request) (reply : Reply) (last : Holdings) → first_request u.version limits u.records ≡ Some r → next ≡ past 1 u
    → answer limits h r ≡ record { reply = reply; left = last } → AreAnswered limits h u next (reply ∷ []) last
one_answered limits h u next r reply last asks is answered =
    first_answered limits h u next next r (reply ∷ []) last asks is (record { some = omega arith; within = omega arith; taken = sym (past_none next); told = rw answered refl })
