-- The stores so far, with those of the transfers to come, are all.
use Rattle.std.proofs.Common.{◌≡◌, ◌++◌, drop}
use Rattle.holdings.specs.Inner.Planning.{stores_of}
use Rattle.holdings.proofs.map_in_pieces.stores.Given as goal

abbrev pub invariant-loop-transfer : goal.invariant-loop-transfer
invariant-loop-transfer l = (l.stores.items ++ stores_of l.shards l.rights (drop l.transfer-index l.transfers)) ≡ stores_of l.shards l.rights l.transfers
