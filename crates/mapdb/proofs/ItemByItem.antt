-- The items so far, and those to come.
use Rattle.std.proofs.Common.{◌≡◌, ℕ, ◌+◌, ◌*◌, ◌^◌, ◌<◌, ◌≤◌, List, length, drop, get_or, refl, sym, ap, ◌∙◌, subst, arith}
use Rattle.std.proofs.lemmas.List.{drop_more, drop_all}
use Rattle.fpage.specs.Fpage.{Flexpage}
use Rattle.fpage.specs.declared.item.Item.{Item}
use Rattle.model.specs.Definitions.Items.{Job, job_of, Counts, no_counts, add_counts}
use Rattle.model.specs.Definitions.Answers.{item_answer, send_answer}
use Rattle.model.specs.Laws.SendLaws.{total}
use Rattle.holdings.specs.Contents.{Contents, laid_out, left_with}
use Rattle.holdings.specs.Layout.{OnlyGrows}
use Rattle.holdings.proofs.CountSums.{add_assoc, add_none, none_add, total_sum}

pub record AreWorked (old : Contents) (from to : ℕ) (window : Flexpage) (items : List Item) (i : ℕ) (now : Contents) (counts : Counts) : Type 0 where
  pub limits : now.limits ≡ old.limits
  pub left : (send_answer from to window (drop i items) now.holdings).left ≡ (send_answer from to window items old.holdings).left
  pub counts_are : add_counts counts (send_answer from to window (drop i items) now.holdings).counts ≡ (send_answer from to window items old.holdings).counts
  pub few : total counts ≤ 2 ^ 32 * i
  pub grows : OnlyGrows old.layout now.layout

module _ (old : Contents) (from to : ℕ) (window : Flexpage) (items : List Item) where
  pub none_worked : AreWorked old from to window items 0 old no_counts
  none_worked = record {
    limits = refl;
    left = refl;
    counts_are = none_add (send_answer from to window items old.holdings).counts;
    few = omega arith;
    grows = λ p k at. at;
  }

  pub one_worked : (i : ℕ) (d : Item) → i < length items → (now next : Contents) (counts one : Counts) → AreWorked old from to window items i now counts → (job : Job) → job ≡ job_of from to window (get_or items i d)
      → next ≡ laid_out (left_with now (item_answer now.holdings job).left) next.layout → OnlyGrows now.layout next.layout → one ≡ (item_answer now.holdings job).counts → total one < 2 ^ 32 → AreWorked old from to window items (i + 1) next (add_counts counts one)
  one_worked i d within now next counts one so_far job job_is left grows counted few =
      let h = now.holdings in
      let first = item_answer h (job_of from to window (get_or items i d)) in
      let rest = drop (i + 1) items in
      let split = drop_more items i d within in
      let after : next.holdings ≡ first.left = ap (λ (c : Contents). c.holdings) left ∙ ap (λ j. (item_answer h j).left) job_is in
      let one_is : one ≡ first.counts = counted ∙ ap (λ j. (item_answer h j).counts) job_is in
      let others = (send_answer from to window rest first.left).counts in
      record {
        limits = ap (λ (c : Contents). c.limits) left ∙ so_far.limits;
        left = ap (λ g. (send_answer from to window rest g).left) after ∙ sym (ap (λ xs. (send_answer from to window xs h).left) split) ∙ so_far.left;
        counts_are = (λ k. add_counts (add_counts counts (one_is k)) (send_answer from to window rest (after k)).counts) ∙ add_assoc counts first.counts others
            ∙ sym (ap (λ xs. add_counts counts (send_answer from to window xs h).counts) split) ∙ so_far.counts_are;
        few = subst (λ n. n ≤ 2 ^ 32 * (i + 1)) (sym (total_sum counts one)) (omega (arith, few, so_far.few));
        grows = λ p k at. grows p k (so_far.grows p k at);
      }

  pub all_worked : (i : ℕ) (now : Contents) (counts : Counts) → length items ≤ i → AreWorked old from to window items i now counts
      → (now ≡ laid_out (left_with old (send_answer from to window items old.holdings).left) now.layout) × (counts ≡ (send_answer from to window items old.holdings).counts)
      × OnlyGrows old.layout now.layout
  all_worked i now counts past so_far =
      let none = drop_all i items past in
      let left = sym (ap (λ xs. (send_answer from to window xs now.holdings).left) none) ∙ so_far.left in (
        (λ k. record { limits = so_far.limits k; holdings = left k; layout = now.layout }),
        sym (add_none counts) ∙ sym (ap (λ xs. add_counts counts (send_answer from to window xs now.holdings).counts) none) ∙ so_far.counts_are,
        so_far.grows,
      )
