-- The transfers so far, with those to come, are all, and each counts once.
use Rattle.std.proofs.Common.{◌≡◌, drop}
use Rattle.model.specs.Definitions.Items.{add_counts}
use Rattle.model.specs.Laws.SendLaws.{total}
use Rattle.holdings.specs.Inner.Planning.{counts_in}
use Rattle.holdings.specs.Meaning.{counts_of}
use Rattle.holdings.proofs.transfer_counts.TransferCounts.of_all.Given as goal

abbrev pub invariant-loop-transfer : goal.invariant-loop-transfer
invariant-loop-transfer l = record {
  counted : add_counts (counts_of l.counts) (counts_in l.shards (drop l.transfer-index l.transfers)) ≡ counts_in l.shards l.transfers;
  upto : total (counts_of l.counts) ≡ l.transfer-index;
}
