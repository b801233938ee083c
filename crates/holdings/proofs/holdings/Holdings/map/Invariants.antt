-- The pages so far, and the shards of all targets.
use Rattle.std.proofs.Common.{ℕ, ◌<◌, length, get_or}
use Rattle.space.specs.Shards.{HasWord}
use Rattle.holdings.specs.declared.transfer.Transfer.{Transfer}
use Rattle.holdings.proofs.Maps.MapWords.{AreAhead}
use Rattle.holdings.proofs.holdings.Holdings.map.Given as goal

abbrev pub invariant-loop-transfer : goal.invariant-loop-transfer
invariant-loop-transfer g l = record {
  ahead : AreAhead l.initial.shards l.fn.self.limits l.fn.self.holdings l.rights l.transfers l.transfer-index l.shards l.trees.items;
  there : (k : ℕ) (d : Transfer) → k < length l.transfers → HasWord l.shards (get_or l.transfers k d).target;
}
