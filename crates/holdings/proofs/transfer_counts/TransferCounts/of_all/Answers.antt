-- One more transfer is counted.
use Rattle.std.proofs.Common.{arith, ◌+◌, sym, ap, ◌∙◌, drop}
use Rattle.std.proofs.lemmas.List.{drop_more}
use Rattle.model.specs.Definitions.Items.{add_counts}
use Rattle.model.specs.Laws.SendLaws.{total}
use Rattle.holdings.specs.Inner.Planning.{counts_in}
use Rattle.holdings.specs.Meaning.{counts_of}
use Rattle.holdings.proofs.CountSums.{add_assoc, total_sum}
use Rattle.holdings.proofs.transfer_counts.TransferCounts.of_all.Goals as goal

pub loop-transfer-preserved : goal.loop-transfer-preserved
loop-transfer-preserved c =
    let s = c.args.shards.now in
    let ts = c.args.transfers.now in
    let i = c.loop-transfer.transfer-index in
    let sum = c.plus-counts.ensures ∙ ap (add_counts (counts_of c.loop-transfer.counts)) c.of_one-one.ensures.counts in
    record {
      counted =
          ap (λ k. add_counts k (counts_in s (drop (i + 1) ts))) sum ∙ add_assoc (counts_of c.loop-transfer.counts) _ (counts_in s (drop (i + 1) ts))
          ∙ ap (λ us. add_counts (counts_of c.loop-transfer.counts) (counts_in s us)) (sym (drop_more ts i _ c.loop-transfer-test.true)) ∙ c.loop-transfer.invariant.counted;
      upto = ap total c.plus-counts.ensures ∙ total_sum (counts_of c.loop-transfer.counts) (counts_of c.of_one-one.result) ∙ omega (arith, c.loop-transfer.invariant.upto, c.of_one-one.ensures.one);
    }
