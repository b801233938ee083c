-- As many words come back as were given.
use Rattle.std.proofs.Common.{◌≤◌, length, take, sym, ap, ◌∙◌, arith}
use Rattle.std.specs.List.{zip}
use Rattle.std.proofs.lemmas.List.{length-take-le}
use Rattle.fpage.specs.Control.{read_control}
use Rattle.model.specs.Definitions.Answers.{Answer}
use Rattle.model.specs.Definitions.Calls.{unmap}
use Rattle.mapdb.specs.Calls.{reply_of}
use Rattle.c_handle.proofs.Ending.{was_done}
use Rattle.c_handle.proofs.Statuses.{words_answered, words_are}
use Rattle.c_handle.proofs.unmap.unmap.Goals as goal

pub copy_from_slice-requires : goal.copy_from_slice-requires
copy_from_slice-requires c =
    let s = c.args.kept.now.database in
    let words = c.args.words.now in
    let all = c.read_fpages.new.fpages in
    let same = words_are (length words) (read_control c.args.asked.control (length words)) c.in_ok-control.control c.in_ok-control.ensures.read in
    let room : length words ≤ length all = omega (arith, same, c.in_ok-control.ensures.words) in
    let fpages = take (length words) all in
    let many = length-take-le (length words) all room in
    let flush = c.in_ok-control.control.flush in
    let done = was_done s c.answer_words.new.self (unmap c.args.asked.space flush (zip words fpages)) c.answer_words.result c.answer_words.ensures.ok c.answer_words.ensures.err c.done.result c.done.ensures c.in_ok-reply.reply c.in_ok-reply.was in
    words_answered s.limits s.holdings c.args.asked.space flush words fpages c.in-Unmapped.told.items many (ap (λ (a : Answer). a.reply) done.answered.told ∙ ap reply_of c.in-Unmapped.is) ∙ ap length (sym c.deref.ensures.value)
