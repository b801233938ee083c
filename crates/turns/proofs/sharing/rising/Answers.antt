use Rattle.std.proofs.Common.{◌≡◌, true, sym, subst}
use Rattle.std.specs.List.{list_all}
use Rattle.std.specs.List.Sorted.{IsStrictlyIncreasing}
use Rattle.std.proofs.Math.Dec.{eqb}
use Rattle.std.proofs.lemmas.List.Filters.{dedup_is, All-dedup}
use Rattle.std.proofs.lemmas.List.Sorted.{All-permutation}
use Rattle.std.proofs.lemmas.List.Sums.{AllPass-from_list_all, list_all-from_AllPass}
use Rattle.std.proofs.lemmas.Map.Keys.{IsStrictlyIncreasing-dedup}
use Rattle.turns.proofs.Rising.{all_there, rising_distinct}
use Rattle.turns.proofs.sharing.rising.Goals as goal

pub returns-clause-rise : goal.returns-clause-rise
returns-clause-rise c = subst IsStrictlyIncreasing (sym (dedup_is eqb _ _ c.dedup.ensures.filtered)) (IsStrictlyIncreasing-dedup _ c.sort_unstable.ensures.sorted)

pub returns-clause-distinct : goal.returns-clause-distinct
returns-clause-distinct c = rising_distinct _ (subst IsStrictlyIncreasing (sym (dedup_is eqb _ _ c.dedup.ensures.filtered)) (IsStrictlyIncreasing-dedup _ c.sort_unstable.ensures.sorted))

pub returns-clause-all : goal.returns-clause-all
returns-clause-all c = all_there _ _ _ c.sort_unstable.ensures.permutation (dedup_is eqb _ _ c.dedup.ensures.filtered)

pub returns-clause-kept : goal.returns-clause-kept
returns-clause-kept c =
    λ test all.
    subst (λ is. list_all test is ≡ true) (sym (dedup_is eqb _ _ c.dedup.ensures.filtered))
    (list_all-from_AllPass test _ (All-dedup eqb (λ i. test i ≡ true) _ (All-permutation (λ i. test i ≡ true) _ _ c.sort_unstable.ensures.permutation (AllPass-from_list_all test _ all))))
