-- What comes of a call of a database.
use Rattle.std.specs.Prelude.{◌≡◌, ⊤, true, false, None, Result, Ok, Err}
use Rattle.model.specs.Definitions.Answers.{answer, call_refusal}
use Rattle.model.specs.Definitions.Calls.{Call, send, access, unmap, clear}
use Rattle.holdings.specs.Layout.{Layout, OnlyGrows}
use Rattle.mapdb.specs.Calls.{reply_of}
use Rattle.mapdb.specs.State.{State, halted, laid_out, left_with}
use Rattle.mapdb.specs.declared.call.Refusal.TheVariants as why
use Rattle.mapdb.specs.declared.error.DbError.{DbError}
use Rattle.mapdb.specs.declared.error.DbError.TheVariants.{BadLimits, NoSuchSpace, SameSpace, NoWindow, NoMemory, NoWorker, Halted}
use Rattle.mapdb.specs.declared.reply.Reply.{Reply}
use Rattle.mapdb.specs.declared.reply.Reply.TheVariants.{Sent, Accessed, Unmapped, Cleared, Refused}

-- a send makes words and moves none; no other call makes any
abbrev pub IsLaidOutBy : Call → Layout → Layout → Type 0
IsLaidOutBy (send from to window items) old new = OnlyGrows old new
IsLaidOutBy (access place kind) old new = new ≡ old
IsLaidOutBy (unmap space flush words) old new = new ≡ old
IsLaidOutBy (clear space) old new = new ≡ old

-- the calls that the recursion leaves to workers
abbrev pub IsSendOrAccess : Call → Type 0
IsSendOrAccess (send from to window items) = ⊤
IsSendOrAccess (access place kind) = ⊤
IsSendOrAccess (unmap space flush words) = ⊥
IsSendOrAccess (clear space) = ⊥

-- a refused call changes nothing
abbrev pub StaysIfRefused : Reply → State → State → Type 0
StaysIfRefused (Sent counts) old new = ⊤
StaysIfRefused (Accessed made) old new = ⊤
StaysIfRefused (Unmapped words) old new = ⊤
StaysIfRefused (Cleared status) old new = ⊤
StaysIfRefused (Refused why) old new = new ≡ old

-- a call was answered as it is defined
pub record IsAnswered (s : State) (call : Call) (new : State) (reply : Reply) : Type 0 where
  pub running : s.is_halted ≡ false
  -- its reply, and what is held after it
  pub told : answer s.limits s.holdings (Ok call) ≡ record { reply = reply_of reply; left = new.holdings }
  -- the limits stay
  pub keeps : new ≡ laid_out (left_with s new.holdings) new.layout
  -- which places have a word
  pub layout : IsLaidOutBy call s.layout new.layout
  pub stays : StaysIfRefused reply s new

-- a call that is not refused, of a database that is not halted
pub record IsAccepted (s : State) (call : Call) : Type 0 where
  pub running : s.is_halted ≡ false
  pub none : call_refusal s.limits call ≡ None

-- why a call was not answered: the database was halted, or an accepted call has halted it
abbrev pub IsUnanswered : State → Call → State → DbError → Type 0
IsUnanswered s call new Halted = (s.is_halted ≡ true) × (new ≡ s)
IsUnanswered s call new NoMemory = IsAccepted s call × (new ≡ halted s)
IsUnanswered s call new NoWorker = IsAccepted s call × (new ≡ halted s)
IsUnanswered s call new BadLimits = ⊥
IsUnanswered s call new NoSuchSpace = ⊥
IsUnanswered s call new SameSpace = ⊥
IsUnanswered s call new NoWindow = ⊥

-- an error that refuses a call is its reply
abbrev pub refused_by : DbError → Result Reply DbError
refused_by NoSuchSpace = Ok (Refused why.NoSuchSpace)
refused_by SameSpace = Ok (Refused why.SameSpace)
refused_by NoWindow = Ok (Refused why.NoWindow)
refused_by BadLimits = Err BadLimits
refused_by NoMemory = Err NoMemory
refused_by NoWorker = Err NoWorker
refused_by Halted = Err Halted
