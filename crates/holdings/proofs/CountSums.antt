-- Sums of counts.
use Rattle.std.proofs.Common.{◌≡◌, ℕ, ◌+◌, arith}
use Rattle.model.specs.Definitions.Items.{Counts, no_counts, add_counts}
use Rattle.model.specs.Laws.SendLaws.{total}

pub add_assoc : (a b c : Counts) → add_counts (add_counts a b) c ≡ add_counts a (add_counts b c)
add_assoc a b c = λ i. record {
  absent = one a.absent b.absent c.absent i;
  norights = one a.norights b.norights c.norights i;
  origin = one a.origin b.origin c.origin i;
  lost = one a.lost b.lost c.lost i;
  extended = one a.extended b.extended c.extended i;
  linked = one a.linked b.linked c.linked i;
}
  where
    one : (x y z : ℕ) → x + y + z ≡ x + (y + z)
    one x y z = omega arith

pub add_none : (a : Counts) → add_counts a no_counts ≡ a
add_none a = λ i. record { absent = one a.absent i; norights = one a.norights i; origin = one a.origin i; lost = one a.lost i; extended = one a.extended i; linked = one a.linked i }
  where
    one : (x : ℕ) → x + 0 ≡ x
    one x = omega arith

pub none_add : (a : Counts) → add_counts no_counts a ≡ a
none_add a = λ i. record { absent = one a.absent i; norights = one a.norights i; origin = one a.origin i; lost = one a.lost i; extended = one a.extended i; linked = one a.linked i }
  where
    one : (x : ℕ) → 0 + x ≡ x
    one x = omega arith

pub total_sum : (a b : Counts) → total (add_counts a b) ≡ total a + total b
total_sum a b = omega arith
