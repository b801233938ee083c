-- An origin is a place whose shard is there.
use Rattle.holdings.proofs.planning.index_of_origin.Goals as goal

pub index-requires-clause-place : goal.index-requires-clause-place
index-requires-clause-place c = (c.requires c.in_ok-origin.origin c.in_ok-origin.was).place

pub index-requires-clause-has : goal.index-requires-clause-has
index-requires-clause-has c = (c.requires c.in_ok-origin.origin c.in_ok-origin.was).word
