-- The new mappings so far, with those of the transfers to come, are all; so are the counts, and each transfer counts once.
use Rattle.std.proofs.Common.{◌≡◌, ◌++◌, drop}
use Rattle.model.specs.Definitions.Items.{add_counts}
use Rattle.model.specs.Laws.SendLaws.{total}
use Rattle.holdings.specs.Inner.Links.{links_of}
use Rattle.holdings.specs.Inner.Planning.{counts_in}
use Rattle.holdings.specs.Meaning.{counts_of}
use Rattle.holdings.proofs.link.new_links.Given as goal

abbrev pub invariant-loop-transfer : goal.invariant-loop-transfer
invariant-loop-transfer l =
    ((l.links.items ++ links_of l.shards (drop l.transfer-index l.transfers)) ≡ links_of l.shards l.transfers)
    × (add_counts (counts_of l.counts) (counts_in l.shards (drop l.transfer-index l.transfers)) ≡ counts_in l.shards l.transfers) × (total (counts_of l.counts) ≡ l.transfer-index)
