-- The shard of a place is one that the directory can have.
use Rattle.space.proofs.ShardWords.{shard_can}
use Rattle.space.proofs.shards.Shards.shard.Goals as goal

pub returns-clause-in_range : goal.returns-clause-in_range
returns-clause-in_range c = rw c.shards_before.ensures (shard_can c.args.self.now c.args.place c.requires)
