-- The list of positions beside the directory.
use Rattle.std.proofs.Common.{◌≡◌, ℕ, ◌<◌, ◌≤◌, List, length, slice_index, slice_set, sym, ap, ◌∙◌, arith, ◌⊎◌, inl, inr}
use Rattle.std.proofs.lemmas.List.{length-set, get_or-set_same, get_or-set_other}
use Rattle.space.specs.declared.directory.Directory.{Directory}
use Rattle.space.proofs.Leaves.{same_or_not}
use Rattle.space.specs.Positions.{count_of, position_in, AreCopied, IsAdded}

-- a list that says what the directory says is told where a shard was added
pub copied_more : (d e : Directory) (shard : ℕ) (positions : List ℕ) → IsAdded d e shard → AreCopied d positions → shard < length positions → AreCopied e (slice_set positions shard (count_of d))
copied_more d e shard positions added are within k less = elim (same_or_not shard k) as (λ _. slice_index (slice_set positions shard (count_of d)) k ≡ position_in e k) [
  | inl same ↦ ap (slice_index (slice_set positions shard (count_of d))) (sym same) ∙ get_or-set_same positions shard (count_of d) 0 within ∙ sym added.there ∙ ap (position_in e) same
  | inr differ ↦
      get_or-set_other positions shard k (count_of d) 0 (λ same. differ (sym same))
      ∙ are k (omega (arith, less, length-set positions shard (count_of d))) ∙ sym (added.elsewhere k (λ same. differ (sym same)))
]

-- or is about others
pub copied_others : (d e : Directory) (shard : ℕ) (positions : List ℕ) → IsAdded d e shard → AreCopied d positions → length positions ≤ shard → AreCopied e positions
copied_others d e shard positions added are behind k less = are k less ∙ sym (added.elsewhere k (λ same. absurd (omega (arith, same, less, behind))))
