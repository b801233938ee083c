-- What comes of a call that may change what is held.
use Rattle.std.specs.Prelude.{◌≡◌, ◌⊎◌, ℕ, Bool, true, false, not, ◌&&◌, IsTrue, Option, Some, None, if◌then◌else◌}
use Rattle.model.specs.Definitions.Calls.{Limits, Reply, refused, Request}
use Rattle.model.specs.Definitions.Answers.{Answer, answer}
use Rattle.mapdb.specs.State.{State, halted, left_with}
use Rattle.c_handle.specs.Codes.{done, is_empty, is_halted_code, refusal_code}

-- what stands after a call: its code, what the handle holds, and what was lent to it
pub record After (A : Type 0) : Type 0 where
  pub code : ℕ
  pub held : Option State
  pub lent : A

-- the code of a reply
abbrev pub reply_code : Reply → ℕ
reply_code (refused r) = refusal_code r
reply_code other = done

-- whether a reply is a refusal
abbrev pub is_refused : Reply → Bool
is_refused (refused r) = true
is_refused other = false

-- after a call that was answered; `told` is what its reply writes to what is lent
abbrev pub answered : {A : Type 0} → (A → Reply → A) → State → A → Answer → After A
answered told s lent a = record { code = reply_code a.reply; held = Some (left_with s a.left); lent = told lent a.reply }

-- after a call that changed nothing
abbrev pub unchanged : {A : Type 0} → ℕ → Option State → A → After A
unchanged code held lent = record { code = code; held = held; lent = lent }

-- after a call that ran out of memory in the middle
abbrev pub run_out : {A : Type 0} → State → A → After A
run_out s lent = record { code = is_halted_code; held = Some (halted s); lent = lent }

-- after a call of a database that has memory enough
abbrev pub called : {A : Type 0} → (A → Reply → A) → Request → State → A → After A
called told request s lent = if s.is_halted then unchanged is_halted_code (Some s) lent else answered told s lent (answer s.limits s.holdings request)

-- whether a call is refused neither for what it asks nor since the database is halted
abbrev pub is_accepted : Request → State → Bool
is_accepted request s = not s.is_halted && not (is_refused (answer s.limits s.holdings request).reply)

-- what may come of a call of a database: one that is accepted may run out of memory
abbrev pub IsCalled : {A : Type 0} → (A → Reply → A) → Request → State → A → After A → Type 0
IsCalled told request s lent after = (after ≡ called told request s lent) ⊎ (IsTrue (is_accepted request s) × (after ≡ run_out s lent))

-- the same of a handle
abbrev pub IsCalledOf : {A : Type 0} → (A → Reply → A) → (Limits → Request) → Option State → A → After A → Type 0
IsCalledOf told request None lent after = after ≡ unchanged is_empty None lent
IsCalledOf told request (Some s) lent after = IsCalled told (request s.limits) s lent after
