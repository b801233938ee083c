-- What comes of a send, by how it ended.
use Rattle.std.proofs.Common.{◌≡◌, ℕ, true, false, not, ◌&&◌, List, Option, Some, None, Ok, refl, ap, ◌∙◌}
use Rattle.fpage.specs.Fpage.{Flexpage}
use Rattle.fpage.specs.declared.item.Item.{Item}
use Rattle.model.specs.Definitions.Calls as calls
use Rattle.model.specs.Definitions.Calls.{Call, Limits, send, Refusal, Request}
use Rattle.model.specs.Definitions.Answers.{Answer, answer, call_answer, call_refusal, send_answer, unless_refused}
use Rattle.model.specs.Definitions.Holdings.{Holdings}
use Rattle.model.specs.Definitions.Items.{Counts}
use Rattle.mapdb.specs.Held.{OnlyGrows}
use Rattle.mapdb.specs.Calls.{reply_of}
use Rattle.mapdb.specs.State.{State, laid_out}
use Rattle.mapdb.specs.declared.reply.Reply.{Reply}
use Rattle.mapdb.specs.declared.reply.Reply.TheVariants.{Sent, Accessed, Unmapped, Cleared, Refused}
use Rattle.mapdb.specs.declared.reply.SendReply.{SendReply as Counted}
use Rattle.c_handle.specs.Called.{After, IsCalled, is_accepted, is_refused}
use Rattle.c_handle.specs.Codes.{done}
use Rattle.c_handle.specs.Done.{IsDone, IsNotDone}
use Rattle.c_handle.specs.Errors.{error_code}
use Rattle.c_handle.specs.Replied.{counts_told}
use Rattle.c_handle.specs.Sent.{IsSent}
use Rattle.c_handle.specs.declared.error.CallError.{CallError}
use Rattle.c_handle.specs.declared.send.SendReply.{SendReply}
use Rattle.c_handle.proofs.Calling.{called_done, called_not_done, done_code}

module _ (request : Request) (s : State) (lent : SendReply) where
  -- as a call that makes no words
  pub sent_called : (after : After SendReply) → IsCalled counts_told request s lent after
      → IsSent request s lent after
  sent_called after called = record {
    layout = s.layout;
    grows = λ p i at. at;
    stays = λ _. refl;
    called = called;
  }

  -- it was not done
  pub sent_not_done : (call : Call) → request ≡ Ok call → (new : State) (e : CallError) → IsNotDone s call new e
      → IsSent request s lent (record { code = error_code e; held = Some new; lent = lent })
  sent_not_done call asked new e is = sent_called _ (called_not_done counts_told request s lent call asked (λ r. refl) new e is)

  -- done
  pub sent_done : (call : Call) → request ≡ Ok call → (new : State) (r : Reply) → IsDone s call new r → OnlyGrows s.layout new.layout
      → (mine : SendReply) → mine ≡ counts_told lent (reply_of r)
      → IsSent request s lent (record { code = done; held = Some new; lent = mine })
  sent_done call asked new r is grows mine mine_is = record {
    layout = new.layout;
    grows = grows;
    stays = λ refused. absurd (cc (accepted, refused));
    called =
        called_done counts_told request (laid_out s new.layout) lent call asked is.answered.running new (reply_of r) is.answered.told is.answered.keeps done (done_code (reply_of r) is.accepted) mine mine_is;
  }
    where
      answer_is : is_refused (answer s.limits s.holdings request).reply ≡ false
      answer_is =
          ap (λ q. is_refused (answer s.limits s.holdings q).reply) asked
          ∙ ap (λ (a : Answer). is_refused a.reply) is.answered.told ∙ is.accepted

      accepted : is_accepted request s ≡ true
      accepted = λ i. not (is.answered.running i) && not (answer_is i)

-- the counts of a send that was answered by these
pub counts_are : (limits : Limits) (h : Holdings) (from to : ℕ) (window : Flexpage) (items : List Item) (k : Counts) → (answer limits h (Ok (send from to window items))).reply ≡ calls.sent k → (send_answer from to window items h).counts ≡ k
counts_are limits h from to window items k is = by (call_refusal limits (send from to window items)) is
  where
    by : (o : Option Refusal) → (unless_refused o h (call_answer h (send from to window items))).reply ≡ calls.sent k → (send_answer from to window items h).counts ≡ k
    by None is = cc is
    by (Some r) is = absurd (cc is)

-- a reply to no send tells no counts
pub told_none : (lent : SendReply) (r : Reply) → ((x : Counted) → r ≡ Sent x → ⊥) → lent ≡ counts_told lent (reply_of r)
told_none lent (Sent x) none = absurd (none x refl)
told_none lent (Accessed made) none = refl
told_none lent (Unmapped words) none = refl
told_none lent (Cleared status) none = refl
told_none lent (Refused why) none = refl
