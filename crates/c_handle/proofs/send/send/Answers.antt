-- The words are read as a record's are, and the database answers as it is asked.
use Rattle.std.proofs.Common.{◌≡◌, inl, inr, ℕ, ◌/◌, ◌<◌, ◌≤◌, false, length, take, Some, refl, sym, ap, ◌∙◌, subst, arith}
use Rattle.std.proofs.lemmas.List.{length-take-le}
use Rattle.fpage.specs.Fpage.{IsSpaceBits, read_fpage}
use Rattle.model.specs.Definitions.Calls.{Call, Limits, send, bad_record, refusal_of, Request}
use Rattle.model.specs.Definitions.Items.{Counts}
use Rattle.model.specs.Definitions.Records.{are_item_words, read_items}
use Rattle.model.specs.Laws.SendLaws.{total}
use Rattle.mapdb.specs.State.{State}
use Rattle.mapdb.specs.Calls.{reply_of}
use Rattle.mapdb.specs.Meaning.{counts_of}
use Rattle.mapdb.specs.declared.reply.Reply.{Reply}
use Rattle.model.specs.Definitions.Answers.{Answer}
use Rattle.c_handle.specs.Asked.{send_asked}
use Rattle.c_handle.specs.Replied.{counts_told}
use Rattle.c_handle.specs.Sent.{IsSent}
use Rattle.c_handle.proofs.Calling.{word_coded, coded, called_halted, called_refused}
use Rattle.c_handle.proofs.Requests.{are_words, not_words, words_refused, window_refused, send_is, send_refused}
use Rattle.c_handle.proofs.Ending.{was_done, was_not_done, known_done}
use Rattle.c_handle.proofs.Sendings.{counts_are, sent_called, sent_done, sent_not_done, told_none}
use Rattle.c_handle.proofs.Served.{served}
use Rattle.c_handle.proofs.Totals.{send_total}
use Rattle.c_handle.proofs.send.send.Goals.{in-Sent, in_default, then-words-ne0-via-then-words-ne0, then-words-ne0-via-else-words-ne0+then-words-lt2, then-words-ne0-via-else-words-ne0+else-words-lt2+then-words}
use Rattle.c_handle.proofs.send.send.Goals as goal

pub returns-then-is_halted-clause-called : goal.returns-then-is_halted-clause-called
returns-then-is_halted-clause-called c =
    let s : State = c.args.kept.now.database in
    let asked : Request = send_asked c.args.asked.now.from c.args.asked.now.to c.args.asked.now.window c.args.asked.now.words.now s.limits in
    sent_called asked s c.args.reply.now _ (called_halted counts_told asked s c.args.reply.now (sym c.if-is_halted.ensures))

pub returns-then-words-ne0-clause-called : goal.returns-then-words-ne0-clause-called
returns-then-words-ne0-clause-called c =
    let s : State = c.args.kept.now.database in
    let words = c.args.asked.now.words.now in
    let asked : Request = send_asked c.args.asked.now.from c.args.asked.now.to c.args.asked.now.window words s.limits in
    let runs : s.is_halted ≡ false = sym c.if-is_halted.ensures in
    let is : are_item_words words ≡ false =
    elim c.then-words-ne0.branch [
      | then-words-ne0-via-then-words-ne0 w ↦ not_words words (inl w.if-words-ne0.true)
      | then-words-ne0-via-else-words-ne0+then-words-lt2 w ↦ not_words words (inr (inl w.if-words-lt2.true))
      | then-words-ne0-via-else-words-ne0+else-words-lt2+then-words w ↦ not_words words (inr (inr w.if-words.true))
    ] in
    sent_called asked s c.args.reply.now _
    (called_refused counts_told asked s c.args.reply.now runs bad_record (words_refused c.args.asked.now.from c.args.asked.now.to c.args.asked.now.window words s.limits is) refl)

pub returns-in_err-window-clause-called : goal.returns-in_err-window-clause-called
returns-in_err-window-clause-called c =
    let s : State = c.args.kept.now.database in
    let words = c.args.asked.now.words.now in
    let asked : Request = send_asked c.args.asked.now.from c.args.asked.now.to c.args.asked.now.window words s.limits in
    let e = c.in_err-window.field-0.0 in
    let runs : s.is_halted ≡ false = sym c.if-is_halted.ensures in
    let same_bits = ap (λ (l : Limits). l.bits) c.limits-bits.ensures.limits in
    let are = are_words words c.if-words-ne0.false c.if-words-lt2.false c.if-words.false in
    let window = ap (λ b. read_fpage b c.args.asked.now.window) (sym same_bits) ∙ sym c.in_err-window.ensures.read in
    let is = window_refused c.args.asked.now.from c.args.asked.now.to c.args.asked.now.window words s.limits are e window in
    let code = word_coded c.from_residual.result e c.from_residual.ensures.1 in
    let P : ℕ → Type 0 = λ k. IsSent asked s c.args.reply.now (record { code = k; held = Some s; lent = c.args.reply.now }) in
    subst P (sym code) (sent_called asked s c.args.reply.now _ (called_refused counts_told asked s c.args.reply.now runs (refusal_of e) is refl))

pub read_items-requires-clause-bits : goal.read_items-requires-clause-bits
read_items-requires-clause-bits c =
    let s : State = c.args.kept.now.database in
    let runs : s.is_halted ≡ false = sym c.if-is_halted.ensures in
    let limits = served s.limits (c.limits-bits.ensures.served runs) in
    subst IsSpaceBits (sym (ap (λ (l : Limits). l.bits) c.limits-bits.ensures.limits)) (record { low = limits.low; high = limits.high })

pub returns-in_err-read_items-clause-called : goal.returns-in_err-read_items-clause-called
returns-in_err-read_items-clause-called c =
    let s : State = c.args.kept.now.database in
    let words = c.args.asked.now.words.now in
    let asked : Request = send_asked c.args.asked.now.from c.args.asked.now.to c.args.asked.now.window words s.limits in
    let e = c.in_err-read_items.field-0.0 in
    let runs : s.is_halted ≡ false = sym c.if-is_halted.ensures in
    let same_bits = ap (λ (l : Limits). l.bits) c.limits-bits.ensures.limits in
    let are = are_words words c.if-words-ne0.false c.if-words-lt2.false c.if-words.false in
    let window = ap (λ b. read_fpage b c.args.asked.now.window) (sym same_bits) ∙ sym c.in_ok-window.ensures.read in
    let read = ap (λ b. read_items b words) (sym same_bits) ∙ sym c.in_err-read_items.ensures.items in
    let is = send_refused c.args.asked.now.from c.args.asked.now.to c.args.asked.now.window words s.limits are c.in_ok-window.window window e read in
    let code = word_coded c.from_residual-in_err-read_items.result e c.from_residual-in_err-read_items.ensures.1 in
    let P : ℕ → Type 0 = λ k. IsSent asked s c.args.reply.now (record { code = k; held = Some s; lent = c.args.reply.now }) in
    subst P (sym code) (sent_called asked s c.args.reply.now _ (called_refused counts_told asked s c.args.reply.now runs (refusal_of e) is refl))

pub returns-in_err-answered-clause-called : goal.returns-in_err-answered-clause-called
returns-in_err-answered-clause-called c =
    let s : State = c.args.kept.now.database in
    let asked : Request = send_asked c.args.asked.now.from c.args.asked.now.to c.args.asked.now.window c.args.asked.now.words.now s.limits in
    let words = c.args.asked.now.words.now in
    let items = take (length words / 2) c.read_items.new.items in
    let call : Call = send c.args.asked.now.from c.args.asked.now.to c.in_ok-window.window items in
    let same_bits = ap (λ (l : Limits). l.bits) c.limits-bits.ensures.limits in
    let are = are_words words c.if-words-ne0.false c.if-words-lt2.false c.if-words.false in
    let window = ap (λ b. read_fpage b c.args.asked.now.window) (sym same_bits) ∙ sym c.in_ok-window.ensures.read in
    let read = ap (λ b. read_items b words) (sym same_bits) ∙ sym c.in_ok-read_items.ensures.items in
    let is = send_is c.args.asked.now.from c.args.asked.now.to c.args.asked.now.window words s.limits are c.in_ok-window.window window items read in
    let e = c.in_err-answered.field-0.0 in
    let code = coded c.from_residual-in_err-answered.result e c.from_residual-in_err-answered.ensures.1 in
    let P : ℕ → Type 0 = λ k. IsSent asked s c.args.reply.now (record { code = k; held = Some c.answer_send.new.self; lent = c.args.reply.now }) in
    subst P (sym code) (sent_not_done asked s c.args.reply.now call is c.answer_send.new.self e
    (was_not_done s c.answer_send.new.self call c.answer_send.result c.answer_send.ensures.ok c.answer_send.ensures.err c.done.result c.done.ensures e c.in_err-answered.was))

pub counts-requires : goal.counts-requires
counts-requires c =
    let s : State = c.args.kept.now.database in
    let words = c.args.asked.now.words.now in
    let all = c.read_items.new.items in
    let items = take (length words / 2) all in
    let runs : s.is_halted ≡ false = sym c.if-is_halted.ensures in
    let same_bits = ap (λ (l : Limits). l.bits) c.limits-bits.ensures.limits in
    let limits = served s.limits (c.limits-bits.ensures.served runs) in
    let high : c.limits-bits.result.bits ≤ 32 = subst (λ b. b ≤ 32) (sym same_bits) limits.high in
    let most = send_total c.limits-bits.result.bits high c.args.asked.now.from c.args.asked.now.to c.in_ok-window.window items s.holdings c.in_ok-read_items.ensures.within in
    let few : length words ≤ 62 = c.if-words.false in
    let room : length words / 2 ≤ length all = omega (arith, few) in
    let many = length-take-le (length words / 2) all room in
    let call : Call = send c.args.asked.now.from c.args.asked.now.to c.in_ok-window.window items in
    let done = was_done s c.answer_send.new.self call c.answer_send.result c.answer_send.ensures.ok c.answer_send.ensures.err c.done.result c.done.ensures c.in_ok-answered.answered c.in_ok-answered.was in
    let counts = counts_are s.limits s.holdings c.args.asked.now.from c.args.asked.now.to c.in_ok-window.window items (counts_of c.in-Sent.sent) (ap (λ (a : Answer). a.reply) done.answered.told ∙ ap reply_of c.in-Sent.is) in
    subst (λ (k : Counts). total k < 4294967296) counts (omega (arith, most, many, few))

pub returns-clause-called : goal.returns-clause-called
returns-clause-called c =
    let s : State = c.args.kept.now.database in
    let lent = c.args.reply.now in
    let asked : Request = send_asked c.args.asked.now.from c.args.asked.now.to c.args.asked.now.window c.args.asked.now.words.now s.limits in
    let words = c.args.asked.now.words.now in
    let items = take (length words / 2) c.read_items.new.items in
    let call : Call = send c.args.asked.now.from c.args.asked.now.to c.in_ok-window.window items in
    let same_bits = ap (λ (l : Limits). l.bits) c.limits-bits.ensures.limits in
    let are = are_words words c.if-words-ne0.false c.if-words-lt2.false c.if-words.false in
    let window = ap (λ b. read_fpage b c.args.asked.now.window) (sym same_bits) ∙ sym c.in_ok-window.ensures.read in
    let read = ap (λ b. read_items b words) (sym same_bits) ∙ sym c.in_ok-read_items.ensures.items in
    let is = send_is c.args.asked.now.from c.args.asked.now.to c.args.asked.now.window words s.limits are c.in_ok-window.window window items read in
    let answered = c.in_ok-answered.answered in
    let done = was_done s c.answer_send.new.self call c.answer_send.result c.answer_send.ensures.ok c.answer_send.ensures.err c.done.result c.done.ensures answered c.in_ok-answered.was in
    let mine : c.match-answered.reply ≡ counts_told lent (reply_of answered) =
    elim c.match-answered.branch [
      | in-Sent w ↦ w.reply-is ∙ w.counts.ensures ∙ sym (ap (λ (r : Reply). counts_told lent (reply_of r)) w.in-Sent.is)
      | in_default w ↦ w.reply-is ∙ told_none lent answered w.in_default.not-Sent
    ] in
    sent_done asked s lent call is c.answer_send.new.self answered done done.answered.layout c.match-answered.reply mine

pub returns-clause-told : goal.returns-clause-told
returns-clause-told c = known_done c.answer_send.result c.answer_send.ensures.noted c.done.result c.done.ensures c.in_ok-answered.answered c.in_ok-answered.was
