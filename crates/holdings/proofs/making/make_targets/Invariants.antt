-- The shards of the targets so far are there.
use Rattle.std.proofs.Common.{ℕ, ◌<◌, get_or}
use Rattle.std.specs.Prelude.{IsFalse, IfSome}
use Rattle.std.specs.List.{list_any}
use Rattle.space.specs.Shards.{HasWord, is_taken, IsMade, AreOnlyMade, are_beside}
use Rattle.holdings.specs.declared.transfer.Transfer.{Transfer}
use Rattle.holdings.proofs.making.make_targets.Given as goal

abbrev pub invariant-loop-transfer : goal.invariant-loop-transfer
invariant-loop-transfer l = record {
  made : IsMade l.initial.shards l.shards;
  there : (k : ℕ) (d : Transfer) → k < l.transfer-index → HasWord l.shards (get_or l.transfers k d).target;
  only : AreOnlyMade l.initial.shards l.shards (λ p. list_any (λ t. are_beside t.target p) l.transfers);
  present : IsFalse (is_taken l.shards);
  -- that of the last one that was looked at too
  made_last : IfSome l.made (HasWord l.shards);
}
