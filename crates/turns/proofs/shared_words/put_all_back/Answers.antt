use Rattle.std.proofs.Common.{◌≤◌, length, ap, ◌∙◌, subst, sym}
use Rattle.std.proofs.lemmas.List.{take_all}
use Rattle.std.proofs.lemmas.List.FromFn.{length-range_with_len}
use Rattle.std.specs.List.{range_with_len}
use Rattle.std.specs.Slots.{slots_items}
use Rattle.turns.specs.SharedWords.{replaced}
use Rattle.turns.proofs.AllWords.{one_of_all_put_back}
use Rattle.turns.proofs.shared_words.put_all_back.Goals as goal

pub loop-k-preserved : goal.loop-k-preserved
loop-k-preserved c = one_of_all_put_back c.loop-k.k _ _ _ _ c.word.result c.loop-k-test.true c.word.ensures c.loop-k.invariant

pub returns : goal.returns
returns c =
    let is = range_with_len 0 (length c.args.words.now) in
    c.loop-k.invariant
    ∙ ap (λ js. replaced c.args.words.now js (slots_items c.args.shared.now.words)) (take_all c.loop-k.k is (subst (λ n. n ≤ c.loop-k.k) (sym (length-range_with_len 0 (length c.args.words.now))) c.loop-k-test.false))
