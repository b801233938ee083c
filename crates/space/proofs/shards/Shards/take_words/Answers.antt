-- The word of a place packs what stood there.
use Rattle.std.proofs.Common.{◌∙◌, sym}
use Rattle.space.proofs.ShardWords.{word_read}
use Rattle.space.proofs.shards.Shards.take_words.Goals as goal

pub returns-clause-words : goal.returns-clause-words
returns-clause-words c p place = word_read c.args.self.now c.unwrap.result (sym c.take.ensures.value ∙ c.unwrap.ensures) p
