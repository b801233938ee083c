-- Distinct places have distinct words.
use Rattle.std.proofs.Common.{◌∙◌, sym}
use Rattle.space.proofs.ShardWords.{words_are_their_own}
use Rattle.space.proofs.shards.Shards.index.Goals as goal

pub returns-clause-distinct : goal.returns-clause-distinct
returns-clause-distinct c q place same = sym (words_are_their_own c.args.self.now c.args.place q c.requires.place place c.requires.has (sym (same ∙ c.find.ensures)))
