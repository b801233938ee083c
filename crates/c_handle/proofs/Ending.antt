-- What comes of a call, by the answer of the database.
use Rattle.std.proofs.Common.{◌≡◌, inl, inr, Result, Ok, Err, refl, sym, subst, ◌∙◌}
use Rattle.std.specs.Prelude.{IfOk, IfErr, OnOk}
use Rattle.model.specs.Definitions.Calls.{Call}
use Rattle.mapdb.specs.Answered.{IsAnswered, IsUnanswered}
use Rattle.mapdb.specs.State.{State}
use Rattle.mapdb.specs.declared.error.DbError.{DbError}
use Rattle.mapdb.specs.declared.error.DbError.TheVariants as error
use Rattle.mapdb.specs.declared.reply.Reply.{Reply}
use Rattle.mapdb.specs.declared.reply.Reply.TheVariants as reply
use Rattle.c_handle.specs.Done.{IsDone, IsNotDone, done_as}
use Rattle.c_handle.specs.declared.error.CallError.{CallError}

module _ (s new : State) (call : Call) where
  ends : (r : Result Reply DbError) → IfOk r (IsAnswered s call new) → IfErr r (IsUnanswered s call new) → IfOk (done_as r) (IsDone s call new) × IfErr (done_as r) (IsNotDone s call new)
  ends (Ok (reply.Sent counts)) ok err = (record { answered = ok; accepted = refl }, tt)
  ends (Ok (reply.Accessed made)) ok err = (record { answered = ok; accepted = refl }, tt)
  ends (Ok (reply.Unmapped words)) ok err = (record { answered = ok; accepted = refl }, tt)
  ends (Ok (reply.Cleared status)) ok err = (record { answered = ok; accepted = refl }, tt)
  ends (Ok (reply.Refused why)) ok err = (tt, ok)
  ends (Err error.BadLimits) ok err = absurd err
  ends (Err error.NoSuchSpace) ok err = absurd err
  ends (Err error.SameSpace) ok err = absurd err
  ends (Err error.NoWindow) ok err = absurd err
  ends (Err error.NoMemory) ok err = (tt, inr err)
  ends (Err error.NoWorker) ok err = (tt, inr err)
  ends (Err error.Halted) ok err = (tt, inl err)

  -- done
  pub was_done : (r : Result Reply DbError) → IfOk r (IsAnswered s call new) → IfErr r (IsUnanswered s call new) → (d : Result Reply CallError) → d ≡ done_as r → (x : Reply) → d ≡ Ok x → IsDone s call new x
  was_done r ok err d same x is = subst (λ o. IfOk o (IsDone s call new)) (sym same ∙ is) (ends r ok err).0

  -- not done
  pub was_not_done : (r : Result Reply DbError) → IfOk r (IsAnswered s call new) → IfErr r (IsUnanswered s call new) → (d : Result Reply CallError) → d ≡ done_as r → (e : CallError) → d ≡ Err e → IsNotDone s call new e
  was_not_done r ok err d same e is = subst (λ o. IfErr o (IsNotDone s call new)) (sym same ∙ is) (ends r ok err).1

-- what is known of an answer is known where the call was done
pub known_done : {P : Type 0} (r : Result Reply DbError) → OnOk r P → (d : Result Reply CallError) → d ≡ done_as r → (x : Reply) → d ≡ Ok x → P
known_done {P} r known d same x is = by r known (sym same ∙ is)
  where
    by : (r : Result Reply DbError) → OnOk r P → done_as r ≡ Ok x → P
    by (Ok y) known done = known
    by (Err e) known done = absurd (cc done)
