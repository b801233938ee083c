-- The words are taken, worked, and put back; no pieces write nothing.
use Rattle.std.proofs.Common.{sym, ◌∙◌, subst}
use Rattle.std.proofs.lemmas.Bool.{eqb-true}
use Rattle.holdings.specs.Inner.Words.{IsWritten}
use Rattle.holdings.proofs.Phases.WorkedPhase.{words_taken}
use Rattle.holdings.proofs.Phases.WrittenPhase.{phase_written, none_written, nothing}
use Rattle.holdings.proofs.writes.write_phase.Goals as goal

pub work-requires-clause-can : goal.work-requires-clause-can
work-requires-clause-can g c =
    let t = c.take_words-words in
    c.requires.can t.result.items (words_taken c.args.shards.now t.result.items t.ensures.count t.ensures.packs t.ensures.words)

pub returns-clause-written : goal.returns-clause-written
returns-clause-written g c =
    let t = c.take_words-words in
    let are = words_taken c.args.shards.now t.result.items t.ensures.count t.ensures.packs t.ensures.words in
    phase_written c.args.shards.now t.new.self c.put_words.new.self t.result.items c.in_ok-words.words.items c.args.pieces.items _ are t.ensures.layout c.in_ok-words.ensures.worked
    c.put_words.ensures.entries c.put_words.ensures.present c.put_words.ensures.layout

pub returns-then-is_empty-clause-written : goal.returns-then-is_empty-clause-written
returns-then-is_empty-clause-written g c =
    let empty = eqb-true c.args.pieces.len 0 (sym c.is_empty.ensures ∙ c.if-is_empty.true) in
    subst (IsWritten c.args.shards.now c.args.shards.now) (sym (nothing c.args.pieces.items (sym c.args.pieces.ok.0 ∙ empty))) (none_written c.args.shards.now c.requires.present)
