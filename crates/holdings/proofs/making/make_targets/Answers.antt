-- One shard more.
use Rattle.std.proofs.Common.{◌∙◌, sym, ap, subst, arith, ℕ, ◌+◌, ◌<◌, inl, inr, List, length, get_or}
use Rattle.std.proofs.lemmas.List.{get_or_default}
use Rattle.std.proofs.lemmas.List.Folds.{list_any_at}
use Rattle.space.specs.declared.shards.Shards.{Shards}
use Rattle.space.specs.Shards.{HasWord, IsMade, are_beside}
use Rattle.space.proofs.Leaves.{same_or_not}
use Rattle.space.proofs.Made.{made_on, only_on, still_there}
use Rattle.holdings.specs.declared.transfer.Transfer.{Transfer}
use Rattle.holdings.proofs.making.make_targets.Goals as goal

-- the targets so far have their shards, and that of the next one was made
has_more : (old new : Shards) (ts : List Transfer) (i : ℕ) (first : Transfer) → IsMade old new → i < length ts → HasWord new (get_or ts i first).target
    → ((k : ℕ) (d : Transfer) → k < i → HasWord old (get_or ts k d).target) → (k : ℕ) (d : Transfer) → k < i + 1 → HasWord new (get_or ts k d).target
has_more old new ts i first made within has before k d less = elim (same_or_not k i) as (λ _. HasWord new (get_or ts k d).target) [
  | inl same ↦ subst (λ (t : Transfer). HasWord new t.target) (get_or_default ts i first d within ∙ ap (λ n. get_or ts n d) (sym same)) has
  | inr differ ↦ still_there old new made (get_or ts k d).target (before k d (omega (arith, less, differ)))
]

pub returns-in_err-make_behind-clause-made : goal.returns-in_err-make_behind-clause-made
returns-in_err-make_behind-clause-made c = made_on _ _ _ c.loop-transfer.invariant.made c.in_err-make_behind.ensures.made

pub returns-in_err-make_behind-clause-only : goal.returns-in_err-make_behind-clause-only
returns-in_err-make_behind-clause-only c =
    only_on _ _ _ _ _ c.in_err-make_behind.ensures.made c.loop-transfer.invariant.only c.in_err-make_behind.ensures.only (λ p is. list_any_at (λ (t : Transfer). are_beside t.target p) c.args.transfers.now c.loop-transfer.transfer-index _ c.loop-transfer-test.true is)

pub loop-transfer-preserved : goal.loop-transfer-preserved
loop-transfer-preserved c = record {
  made = made_on _ _ _ c.loop-transfer.invariant.made c.in_ok-make_behind.ensures.made;
  there = has_more c.loop-transfer.shards c.make_behind.new.shards c.args.transfers.now c.loop-transfer.transfer-index _ c.in_ok-make_behind.ensures.made c.loop-transfer-test.true c.in_ok-make_behind.ensures.there c.loop-transfer.invariant.there;
  only = only_on _ _ _ _ _ c.in_ok-make_behind.ensures.made c.loop-transfer.invariant.only c.in_ok-make_behind.ensures.only (λ p is. list_any_at (λ (t : Transfer). are_beside t.target p) c.args.transfers.now c.loop-transfer.transfer-index _ c.loop-transfer-test.true is);
  present = c.in_ok-make_behind.ensures.present;
  made_last = c.in_ok-make_behind.ensures.there;
}
