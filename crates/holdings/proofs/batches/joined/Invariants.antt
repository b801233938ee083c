-- The plans of the batches so far.
use Rattle.std.proofs.Common.{length, slice_index}
use Rattle.holdings.specs.Inner.StripPlans.{AreRunsBetween, ArePlannedStrips}
use Rattle.holdings.proofs.batches.joined.Given as goal

abbrev pub invariant-loop-part : goal.invariant-loop-part
invariant-loop-part l =
    let b = l.batches in
    record {
      runs : AreRunsBetween b.trees.now b.pages.now 0 (slice_index b.cuts.now (length l.yielded)) l.frames.items;
      strips : ArePlannedStrips b.shards.now b.trees.now b.revoked b.flush l.frames.items l.pieces.items;
    }
