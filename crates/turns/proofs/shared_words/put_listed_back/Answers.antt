use Rattle.turns.proofs.Replacing.{one_put_back}
use Rattle.turns.proofs.shared_words.put_listed_back.Goals as goal

pub loop-k-preserved : goal.loop-k-preserved
loop-k-preserved c = one_put_back c.loop-k.k _ _ _ _ c.word.result c.loop-k-test.true c.word.ensures c.loop-k.invariant
