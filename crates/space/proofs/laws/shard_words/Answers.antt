-- The laws of shards.
use Rattle.space.proofs.ShardWords.{held_have_words, words_are_their_own, entries_fit, shards_have_words, words_have_shards}
use Rattle.space.proofs.laws.shard_words.Goals as goal

pub returns-clause-held_have_words : goal.returns-clause-held_have_words
returns-clause-held_have_words c = held_have_words

pub returns-clause-words_are_their_own : goal.returns-clause-words_are_their_own
returns-clause-words_are_their_own c = words_are_their_own

pub returns-clause-entries_fit : goal.returns-clause-entries_fit
returns-clause-entries_fit c = entries_fit

pub returns-clause-shards_have_words : goal.returns-clause-shards_have_words
returns-clause-shards_have_words c = shards_have_words

pub returns-clause-words_have_shards : goal.returns-clause-words_have_shards
returns-clause-words_have_shards c = words_have_shards
