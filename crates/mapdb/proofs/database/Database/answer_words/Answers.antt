-- Memory and workers are refused to a call that is accepted.
use Rattle.std.proofs.Common.{◌≤◌, ◌≡◌, ◌<◌, [], true, false, Some, None, Option, Bool, ℕ, List, Result, Ok, Err, IfErr, refl, sym, ap, ◌∙◌, subst, arith, nat_lt, ◌+◌, ◌++◌, ◌∷◌, length, get_or, rules}
use Rattle.std.specs.List.{zip}
use Rattle.std.specs.Result.{IsErrAnd}
use Rattle.std.proofs.lemmas.Bool.Decides.{nat_tests}
use Rattle.fpage.specs.Fpage.{Flexpage}
use Rattle.model.specs.Definitions.Calls.{Call, Limits, unmap, unmapped, Reply as TheReply}
use Rattle.crew.specs.declared.error.CrewError.{CrewError}
use Rattle.crew.specs.declared.error.CrewError.TheVariants as crew
use Rattle.holdings.specs.Meaning.{limits_of}
use Rattle.mapdb.specs.Answered.{IsAccepted, IsUnanswered, StaysIfRefused}
use Rattle.mapdb.specs.declared.reply.Reply.{Reply}
use Rattle.mapdb.specs.declared.reply.Reply.TheVariants.{Sent, Accessed, Unmapped, Cleared, Refused}
use Rattle.model.specs.Definitions.Holdings.{Holdings}
use Rattle.mapdb.specs.Calls.{unmap_of, reply_of}
use Rattle.mapdb.specs.Error.{IsOfCrew}
use Rattle.mapdb.specs.State.{State, state_of, halted}
use Rattle.mapdb.specs.declared.call.UnmapWord.{UnmapWord}
use Rattle.mapdb.specs.declared.error.DbError.{DbError}
use Rattle.mapdb.specs.declared.error.DbError.TheVariants.{NoMemory}
use Rattle.mapdb.specs.Noted.{NotesChange, NotesTell}
use Rattle.holdings.specs.declared.notes.Notes.{Notes}
use Rattle.mapdb.proofs.ToldNotes.{change_of, change_tells}
use Rattle.fpage.specs.Control.{with_status}
use Rattle.fpage.specs.declared.rights.Rights.{Rights}
use Rattle.model.specs.Definitions.Answers.{unmapped_answer, answer, pages_in, unmap_answer}
use Rattle.holdings.specs.Contents.{Contents, IsStripped}
use Rattle.holdings.proofs.NotedPages.{follow_both}
use Rattle.mapdb.proofs.WordByWord.{AreAnsweredUpTo, one_answer, all_answers}
use Rattle.mapdb.proofs.database.Database.answer_words.Goals as goal

-- what halts a database that has accepted a call
unanswered : {T : Type 0} (s new : State) (call : Call) (r : Result T DbError) (e : CrewError) → IsErrAnd r (IsOfCrew e) → IsAccepted s call → new ≡ halted s → IfErr r (IsUnanswered s call new)
unanswered s new call (Ok x) e is accepted left = tt
unanswered s new call (Err d) crew.NoMemory is accepted left = subst (IsUnanswered s call new) (sym is) (accepted, left)
unanswered s new call (Err d) crew.NoWorker is accepted left = subst (IsUnanswered s call new) (sym is) (accepted, left)

refused : {T : Type 0} (s new : State) (call : Call) (r : Result T DbError) → IsErrAnd r (λ d. d ≡ NoMemory) → IsAccepted s call → new ≡ halted s → IfErr r (IsUnanswered s call new)
refused s new call (Ok x) is accepted left = tt
refused s new call (Err d) is accepted left = subst (IsUnanswered s call new) (sym is) (accepted, left)

less : (a b : ℕ) → a < b → nat_lt a b ≡ true
less a b is = grind (arith, nat_tests)

-- an unmap of a space that there is
accepted : (s : State) (space : ℕ) (flush : Bool) (words : List (ℕ × Flexpage)) → s.is_halted ≡ false → space < s.limits.spaces → IsAccepted s (unmap space flush words)
accepted s space flush words runs there = record { running = runs; none = rw (less space s.limits.spaces there) refl }

pub returns-in_err-reserve-clause-err : goal.returns-in_err-reserve-clause-err
returns-in_err-reserve-clause-err g c =
    refused c.args.self.now _ _ c.from_residual.result c.from_residual.ensures.1
    (accepted c.args.self.now c.args.unmap.now.space c.args.unmap.now.control.flush (zip c.args.words.now c.args.unmap.now.fpages.now) c.in-Ok.ensures.running c.in-Ok.ensures.within) c.in-Ok.ensures.halted

pub returns-in_err-left-clause-err : goal.returns-in_err-left-clause-err
returns-in_err-left-clause-err g c =
    unanswered c.args.self.now _ _ c.from_residual-in_err-left.result c.in_err-left.field-0.0 c.from_residual-in_err-left.ensures.1
    (accepted c.args.self.now c.args.unmap.now.space c.args.unmap.now.control.flush (zip c.args.words.now c.args.unmap.now.fpages.now) c.in-Ok.ensures.running c.in-Ok.ensures.within) c.in-Ok.ensures.halted

pub returns-in_err-map_err-clause-err : goal.returns-in_err-map_err-clause-err
returns-in_err-map_err-clause-err g c =
    refused c.args.self.now _ _ c.from_residual-in_err-map_err.result c.from_residual-in_err-map_err.ensures.1
    (accepted c.args.self.now c.args.unmap.now.space c.args.unmap.now.control.flush (zip c.args.words.now c.args.unmap.now.fpages.now) c.in-Ok.ensures.running c.in-Ok.ensures.within) c.in-Ok.ensures.halted

pub returns-in_err-keep_told-clause-err : goal.returns-in_err-keep_told-clause-err
returns-in_err-keep_told-clause-err g c =
    refused c.args.self.now _ _ c.from_residual-in_err-keep_told.result c.from_residual-in_err-keep_told.ensures.1
    (accepted c.args.self.now c.args.unmap.now.space c.args.unmap.now.control.flush (zip c.args.words.now c.args.unmap.now.fpages.now) c.in-Ok.ensures.running c.in-Ok.ensures.within) c.in-Ok.ensures.halted

-- an unmap of a space that there is, as the definitions answer it
unmap_told : (s : State) (space : ℕ) (flush : Bool) (words : List (ℕ × Flexpage)) (reply : List ℕ) (left : Holdings) → space < s.limits.spaces
    → record { words = reply; left = left } ≡ unmap_answer space flush words s.holdings → answer s.limits s.holdings (Ok (unmap space flush words)) ≡ record { reply = unmapped reply; left = left }
unmap_told s space flush words reply left there told = rw (less space s.limits.spaces there) (sym (ap unmapped_answer told))

-- the limits of a database are there whether it is halted or not
limits_in : (limits : Limits) (held : Option Contents) → (state_of limits held).limits ≡ limits
limits_in limits None = refl
limits_in limits (Some held) = refl

-- a reply with words refuses nothing
stays : (s new : State) (r : Reply) (words : List ℕ) → reply_of r ≡ unmapped words → StaysIfRefused r s new
stays s new (Sent counts) words is = tt
stays s new (Accessed made) words is = tt
stays s new (Unmapped ws) words is = tt
stays s new (Cleared status) words is = tt
stays s new (Refused why) words is = absurd (search (rules, is))

pub returns-clause-ok : goal.returns-clause-ok
returns-clause-ok g c =
    let s : State = c.args.self.now in
    let call : Call = unmap_of c.args.unmap.now c.args.words.now in
    let held = c.in-Ok.held in
    let space = c.args.unmap.now.space in
    let flush = c.args.unmap.now.control.flush in
    let words = c.args.words.now in
    let fpages = c.args.unmap.now.fpages.now in
    let past : length fpages ≤ c.loop-i.i = omega (arith, c.loop-i-test.false) in
    let all = all_answers held space flush words fpages c.loop-i.i c.loop-i.held c.loop-i.scratch.words.items past c.requires.within.1 c.loop-i.invariant.answered in
    let layout = ap (λ (k : Contents). k.layout) all.0 ∙ c.in-Ok.ensures.layout in
    let limits = limits_of c.self.inside.limits in
    let same = sym (limits_in limits c.self.inside.held) ∙ ap (λ (k : State). k.limits) (c.self.view_is ∙ c.in-Ok.ensures.halted) in
    let told = unmap_told s space flush (zip words fpages) c.loop-i.scratch.words.items c.loop-i.held.holdings c.in-Ok.ensures.within
    (all.1 ∙ ap (unmap_answer space flush (zip words fpages)) c.in-Ok.ensures.held) in
    record {
      running = c.in-Ok.ensures.running;
      told = subst (λ (r : TheReply). answer s.limits s.holdings (Ok call) ≡ record { reply = r; left = c.loop-i.held.holdings }) (sym c.reply.ensures.reply) told;
      keeps = λ i. record { limits = same i; holdings = c.loop-i.held.holdings; layout = c.loop-i.held.layout; is_halted = sym c.in-Ok.ensures.running i };
      layout = layout;
      stays = stays s _ c.reply.result c.loop-i.scratch.words.items c.reply.ensures.reply;
    }

pub returns-clause-noted : goal.returns-clause-noted
returns-clause-noted g c =
    let held = c.loop-i.held.holdings in
    subst (λ (n : Notes). NotesTell c.args.self.now.holdings held c.args.scratch.now.notes n) (sym c.reply.ensures.notes)
    (change_tells c.args.self.now.holdings held c.args.scratch.now.notes c.forget.new.self c.keep_told.new.notes c.forget.ensures.asked c.forget.ensures.list
    (subst (λ (h : Holdings). NotesChange h held c.forget.new.self c.keep_told.new.notes) c.in-Ok.ensures.held
    (change_of c.in-Ok.held.holdings held c.forget.new.self c.loop-i.scratch.notes c.keep_told.new.notes c.loop-i.invariant.noted c.keep_told.ensures.asked c.in_ok-keep_told.ensures.told)))

pub loop-i-preserved : goal.loop-i-preserved
loop-i-preserved g c =
    let words = c.args.words.now in
    let fpages = c.args.unmap.now.fpages.now in
    let space = c.args.unmap.now.space in
    let flush = c.args.unmap.now.control.flush in
    let i = c.loop-i.i in
    let within : i < length words = omega (arith, c.loop-i-test.true, c.requires.within.1) in
    let one : Contents × Rights = (c.in_ok-left.left, c.in_ok-left.status) in
    let page : Flexpage = c.index-unmap-i.result in
    let pushed : c.push.new.self.items ≡ c.loop-i.scratch.words.items ++ with_status (get_or words i 0) c.in_ok-left.status ∷ [] = search rules in
    let stripped : IsStripped c.loop-i.held (pages_in space (get_or fpages i page)) (get_or fpages i page).rights flush one =
    subst (λ (w : UnmapWord). IsStripped c.loop-i.held (pages_in w.space w.fpage) w.fpage.rights w.flush one) c.word-word.ensures c.in_ok-left.ensures.stripped in
    record {
      answered = subst (AreAnsweredUpTo c.in-Ok.held space flush words fpages (i + 1) c.in_ok-left.left) (sym pushed)
          (one_answer c.in-Ok.held space flush words fpages i 0 page within c.loop-i-test.true c.loop-i.held c.loop-i.scratch.words.items c.loop-i.invariant.answered one stripped);
      noted = follow_both c.in-Ok.held.holdings c.loop-i.held.holdings c.in_ok-left.left.holdings c.forget.new.self c.loop-i.scratch.notes c.unmap_word.new.notes c.loop-i.invariant.noted
          c.in_ok-left.ensures.noted;
    }
