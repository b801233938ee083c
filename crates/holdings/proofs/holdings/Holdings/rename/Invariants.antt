-- The words of the pages so far moved, and the shards of all targets.
use Rattle.std.proofs.Common.{ℕ, ◌<◌, length, get_or}
use Rattle.space.specs.Shards.{HasWord}
use Rattle.holdings.specs.declared.transfer.Transfer.{Transfer}
use Rattle.holdings.proofs.Renamings.MovingWords.{AreMoving}
use Rattle.holdings.proofs.holdings.Holdings.rename.Given as goal

abbrev pub invariant-loop-transfer : goal.invariant-loop-transfer
invariant-loop-transfer g l = record {
  moving : AreMoving l.fn.self.limits l.fn.self.holdings l.initial.shards l.transfers l.transfer-index l.shards;
  there : (k : ℕ) (d : Transfer) → k < length l.transfers → HasWord l.shards (get_or l.transfers k d).target;
}
