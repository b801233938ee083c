-- The pairs so far, with those of the transfers to come, are all.
use Rattle.std.proofs.Common.{◌≡◌, ◌++◌, drop}
use Rattle.holdings.specs.Inner.Planning.{word_pairs}
use Rattle.holdings.proofs.moves_in_pieces.pairs.Given as goal

abbrev pub invariant-loop-transfer : goal.invariant-loop-transfer
invariant-loop-transfer l = (l.pairs.items ++ word_pairs l.shards (drop l.transfer-index l.transfers)) ≡ word_pairs l.shards l.transfers
