-- What comes of a call whose words were read.
use Rattle.std.specs.Prelude.{◌≡◌, ◌⊎◌, false, true, Result, Ok, Err}
use Rattle.model.specs.Definitions.Calls.{Call}
use Rattle.mapdb.specs.Answered.{IsAccepted, IsAnswered}
use Rattle.mapdb.specs.Calls.{reply_of}
use Rattle.mapdb.specs.State.{State, halted}
use Rattle.mapdb.specs.declared.error.DbError.{DbError}
use Rattle.mapdb.specs.declared.reply.Reply.{Reply}
use Rattle.mapdb.specs.declared.reply.Reply.TheVariants as reply
use Rattle.c_handle.specs.Called.{is_refused}
use Rattle.c_handle.specs.declared.error.CallError.{CallError}
use Rattle.c_handle.specs.declared.error.CallError.TheVariants.{Refused, Halted}

-- it was answered, and was not refused
pub record IsDone (s : State) (call : Call) (new : State) (r : Reply) : Type 0 where
  pub answered : IsAnswered s call new r
  pub accepted : is_refused (reply_of r) ≡ false

-- it was refused, or the database was halted, or is so now by want of memory
abbrev pub IsNotDone : State → Call → State → CallError → Type 0
IsNotDone s call new (Refused r) = IsAnswered s call new (reply.Refused r)
IsNotDone s call new Halted = ((s.is_halted ≡ true) × (new ≡ s)) ⊎ (IsAccepted s call × (new ≡ halted s))

-- an answer as that of a call that was done, or was not
abbrev pub done_as : Result Reply DbError → Result Reply CallError
done_as (Ok (reply.Sent counts)) = Ok (reply.Sent counts)
done_as (Ok (reply.Accessed made)) = Ok (reply.Accessed made)
done_as (Ok (reply.Unmapped words)) = Ok (reply.Unmapped words)
done_as (Ok (reply.Cleared status)) = Ok (reply.Cleared status)
done_as (Ok (reply.Refused r)) = Err (Refused r)
done_as (Err e) = Err Halted
