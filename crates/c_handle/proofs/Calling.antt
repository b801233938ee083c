-- What comes of a call, by how it ended.
use Rattle.std.proofs.Common.{◌≡◌, inl, inr, ℕ, true, false, not, ◌&&◌, Some, Result, Ok, Err, if◌then◌else◌, refl, sym, ap, ◌∙◌, subst}
use Rattle.std.specs.Result.{IsErrAnd}
use Rattle.fpage.specs.declared.error.FpageError.{FpageError}
use Rattle.model.specs.Definitions.Calls as calls
use Rattle.model.specs.Definitions.Calls.{Call, send, access, unmap, clear, Refusal, Reply, sent, accessed, unmapped, cleared, refused, Request}
use Rattle.model.specs.Definitions.Answers.{Answer, answer, call_answer, unless_refused}
use Rattle.model.specs.Definitions.Holdings.{Holdings}
use Rattle.mapdb.specs.Calls.{refusal_of}
use Rattle.mapdb.specs.State.{State, laid_out, left_with}
use Rattle.c_handle.specs.Codes.{done, is_halted_code, refusal_code}
use Rattle.c_handle.specs.Called.{After, IsCalled, answered, called, unchanged, run_out, is_refused, reply_code}
use Rattle.c_handle.specs.Done.{IsNotDone}
use Rattle.c_handle.specs.Errors.{HasCodeOf, error_code, result_code}
use Rattle.c_handle.specs.declared.error.CallError.{CallError}
use Rattle.c_handle.specs.declared.error.CallError.TheVariants.{Refused, Halted}

-- the code of a result that is an error
pub coded : {A : Type 0} (r : Result A CallError) (e : CallError) → IsErrAnd r (λ d. d ≡ e) → result_code r ≡ error_code e
coded (Ok x) e is = absurd is
coded (Err d) e is = ap error_code is

-- the code of a result that is the error of a word
pub word_coded : {A : Type 0} (r : Result A CallError) (word : FpageError) → IsErrAnd r (HasCodeOf word) → result_code r ≡ refusal_code (calls.refusal_of word)
word_coded (Ok x) word is = absurd is
word_coded (Err d) word is = is

module _ {A : Type 0} (told : A → Reply → A) (request : Request) (s : State) (lent : A) where
  -- by a halted database
  pub called_halted : s.is_halted ≡ true → IsCalled told request s lent (unchanged is_halted_code (Some s) lent)
  called_halted is = inl (ap (λ b. if b then unchanged is_halted_code (Some s) lent else answered told s lent (answer s.limits s.holdings request)) (sym is))

  called_answered : s.is_halted ≡ false → called told request s lent ≡ answered told s lent (answer s.limits s.holdings request)
  called_answered runs = ap (λ b. if b then unchanged is_halted_code (Some s) lent else answered told s lent (answer s.limits s.holdings request)) runs

  -- as its answer says
  pub called_as : s.is_halted ≡ false → (a : Answer) → answer s.limits s.holdings request ≡ a → (stands : After A) → stands ≡ answered told s lent a → IsCalled told request s lent stands
  called_as runs a is stands same = inl (same ∙ ap (answered told s lent) (sym is) ∙ sym (called_answered runs))

  -- refused for its words
  pub called_refused : s.is_halted ≡ false → (r : Refusal) → request ≡ Err r → told lent (refused r) ≡ lent → IsCalled told request s lent (unchanged (refusal_code r) (Some s) lent)
  called_refused runs r is kept =
      called_as runs (record { reply = refused r; left = s.holdings }) (ap (answer s.limits s.holdings) is) (unchanged (refusal_code r) (Some s) lent)
      (ap (λ l. record { code = refusal_code r; held = Some s; lent = l }) (sym kept))

  -- out of memory in the middle
  pub called_run_out : s.is_halted ≡ false → is_refused (answer s.limits s.holdings request).reply ≡ false → IsCalled told request s lent (run_out s lent)
  called_run_out runs accepted = inr ((λ i. not (runs i) && not (accepted i)), refl)

-- an accepted call is answered by no refusal
not_refusal : (h : Holdings) (call : Call) → is_refused (call_answer h call).reply ≡ false
not_refusal h (send from to window items) = refl
not_refusal h (access place kind) = refl
not_refusal h (unmap space flush words) = refl
not_refusal h (clear space) = refl

-- a reply that is no refusal is that of a call that was done
pub done_code : (r : Reply) → is_refused r ≡ false → done ≡ reply_code r
done_code (sent counts) is = refl
done_code (accessed made) is = refl
done_code (unmapped words) is = refl
done_code (cleared status) is = refl
done_code (refused why) is = absurd (cc is)

module _ {A : Type 0} (told : A → Reply → A) (request : Request) (s : State) (lent : A) (call : Call) (asked : request ≡ Ok call) where
  -- it was answered
  pub called_done : s.is_halted ≡ false → (new : State) (r : Reply) → answer s.limits s.holdings (Ok call) ≡ record { reply = r; left = new.holdings } → new ≡ left_with s new.holdings
      → (code : ℕ) → code ≡ reply_code r → (mine : A) → mine ≡ told lent r → IsCalled told request s lent (record { code = code; held = Some new; lent = mine })
  called_done runs new r answer_is new_is code code_is mine mine_is =
      called_as told request s lent runs (record { reply = r; left = new.holdings }) (ap (answer s.limits s.holdings) asked ∙ answer_is) (record { code = code; held = Some new; lent = mine })
      (λ i. record { code = code_is i; held = Some (new_is i); lent = mine_is i })

  -- it was not
  pub called_not_done : ((r : Refusal) → told lent (refused r) ≡ lent) → (new : State) (e : CallError) → IsNotDone s call new e → IsCalled told request s lent (record { code = error_code e; held = Some new; lent = lent })
  called_not_done kept new (Refused r) is =
      called_done is.running new (refused (refusal_of r)) is.told (subst (λ (n : State). n ≡ left_with s n.holdings) (sym is.stays) refl) (error_code (Refused r)) refl lent (sym (kept (refusal_of r)))
  called_not_done kept new Halted (inl is) =
      subst (λ (n : State). IsCalled told request s lent (record { code = is_halted_code; held = Some n; lent = lent })) (sym is.1) (called_halted told request s lent is.0)
  called_not_done kept new Halted (inr is) =
      let accepted = ap (λ q. is_refused (answer s.limits s.holdings q).reply) asked
      ∙ ap (λ o. is_refused (unless_refused o s.holdings (call_answer s.holdings call)).reply) is.0.none ∙ not_refusal s.holdings call in
      subst (λ (n : State). IsCalled told request s lent (record { code = is_halted_code; held = Some n; lent = lent })) (sym is.1) (called_run_out told request s lent is.0.running accepted)

-- a call that makes no words leaves the layout
pub kept_layout : (s new : State) → new ≡ laid_out (left_with s new.holdings) new.layout → new.layout ≡ s.layout → new ≡ left_with s new.holdings
kept_layout s new keeps same = keeps ∙ ap (laid_out (left_with s new.holdings)) same
