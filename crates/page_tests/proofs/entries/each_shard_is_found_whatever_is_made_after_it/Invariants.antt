-- The words are there.
use Rattle.std.proofs.Common.{IsFalse}
use Rattle.space.specs.Shards.{is_taken}
use Rattle.page_tests.proofs.entries.each_shard_is_found_whatever_is_made_after_it.Given as goal

abbrev pub invariant-loop-page : goal.invariant-loop-page
invariant-loop-page g l = IsFalse (is_taken l.shards)
