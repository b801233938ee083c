-- The words are taken, worked, and put back.
use Rattle.std.proofs.Common.{◌≡◌, ◌∙◌, sym, subst}
use Rattle.std.specs.Prelude.{IfOk, Ok, None}
use Rattle.pieces.specs.Gathering.{IsGathered, all_found, fault_in}
use Rattle.holdings.proofs.Phases.WorkedPhase.{words_taken, phase_worked}
use Rattle.holdings.proofs.phase.work_phase_by.Goals as goal

pub work-requires : goal.work-requires
work-requires g c =
    let t = c.take_words-words in
    c.requires.may t.result (words_taken c.args.shards.now t.result.items t.ensures.count t.ensures.packs t.ensures.words)

pub put_words-requires-clause-count : goal.put_words-requires-clause-count
put_words-requires-clause-count g c =
    let t = c.take_words-words in
    let are = words_taken c.args.shards.now t.result.items t.ensures.count t.ensures.packs t.ensures.words in
    let done = c.requires.does t.result (Ok (c.in_ok-words.words, c.in_ok-words.dones)) are c.in_ok-words.ensures in
    done.many ∙ are.count ∙ sym t.ensures.layout.count

pub put_words-requires-clause-packs : goal.put_words-requires-clause-packs
put_words-requires-clause-packs g c =
    let t = c.take_words-words in
    let are = words_taken c.args.shards.now t.result.items t.ensures.count t.ensures.packs t.ensures.words in
    (c.requires.does t.result (Ok (c.in_ok-words.words, c.in_ok-words.dones)) are c.in_ok-words.ensures).packs

pub gathered-requires : goal.gathered-requires
gathered-requires g c =
    let t = c.take_words-words in
    let are = words_taken c.args.shards.now t.result.items t.ensures.count t.ensures.packs t.ensures.words in
    let done = c.requires.does t.result (Ok (c.in_ok-words.words, c.in_ok-words.dones)) are c.in_ok-words.ensures in
    subst (λ n. fault_in n c.in_ok-words.dones.items ≡ None) (sym (c.len-count.ensures ∙ c.args.pieces.ok.0)) done.dones.once

pub returns-clause-worked : goal.returns-clause-worked
returns-clause-worked g c =
    let t = c.take_words-words in
    let are = words_taken c.args.shards.now t.result.items t.ensures.count t.ensures.packs t.ensures.words in
    let done = c.requires.does t.result (Ok (c.in_ok-words.words, c.in_ok-words.dones)) are c.in_ok-words.ensures in
    phase_worked c.args.shards.now t.new.self c.put_words.new.self t.result.items c.in_ok-words.words.items c.args.pieces.items c.in_ok-words.dones.items c.gathered.result are t.ensures.layout done
    c.put_words.ensures.entries c.put_words.ensures.present c.put_words.ensures.layout
    (subst (λ n. IfOk c.gathered.result (IsGathered (all_found n c.in_ok-words.dones.items))) (c.len-count.ensures ∙ c.args.pieces.ok.0) c.gathered.ensures.gathered)
