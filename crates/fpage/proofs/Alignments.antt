-- Aligned fpages: what the test of first page and number of pages means.
use Rattle.std.proofs.Common.{◌≡◌, ℕ, zero, suc, ◌+◌, ◌*◌, ◌/◌, ◌%◌, ◌^◌, ◌==◌, ◌<◌, ◌≤◌, true, ◌&&◌, IsTrue, refl, ap, ◌∙◌, arith, ◌⊎◌, inl, inr, pow_pos, pow-add}
use Rattle.std.proofs.lemmas.Bool.{and_parts, and_from, or_cases, or_right, cases_lt, eqb-true, eq-eqb}
use Rattle.std.proofs.lemmas.Nat.{ones_cat, zero_from_ones}
use Rattle.std.specs.Int.{is_power_of_two}
use Rattle.std.specs.Int.Count.{ones, ones_step}
use Rattle.fpage.specs.Fpage.{Flexpage, is_aligned}

-- one bit of a power of two is set
ones-pow : (k : ℕ) → ones (2 ^ k) ≡ 1
unfolding ones
ones-pow k =
    let shifted : 2 ^ k ≡ 1 * 2 ^ k + 0 = omega arith in
    ap ones shifted ∙ ones_cat k 1 0 (pow_pos k)

-- no bit of 0 is
ones-zero : ones 0 ≡ 0
unfolding ones
ones-zero = refl

-- a number with one bit set is a power of two
power_below : (d n : ℕ) → n ≤ d → ones n ≡ 1 → (k : ℕ) × (n ≡ 2 ^ k)
power_below zero n small one =
    let nothing : n ≡ 0 = omega arith in
    absurd (omega (arith, one, ap ones nothing, ones-zero))
power_below (suc d) n small one = by (power_below d (n / 2) (omega arith)) (cases_lt (n % 2) 1)
  where
    by : (ones (n / 2) ≡ 1 → (k : ℕ) × (n / 2 ≡ 2 ^ k)) → (n % 2 < 1) ⊎ (1 ≤ n % 2) → (k : ℕ) × (n ≡ 2 ^ k)
    by half_power (inl even) =
        let half = half_power (omega (arith, ones_step n)) in
        (1 + half.0, omega (arith, half.1, pow-add 2 1 half.0))
    by _ (inr odd) =
        let rest : n / 2 ≡ 0 = zero_from_ones (n / 2) (omega (arith, ones_step n)) in
        (0, omega arith)

-- an fpage as it is read: it has no pages, or a power of two of them, from a multiple of their number on
pub data IsAligned (f : Flexpage) : Type 0 where
  no_pages : f.count ≡ 0 → IsAligned f
  some_pages : (k : ℕ) → f.count ≡ 2 ^ k → f.first % f.count ≡ 0 → IsAligned f

-- what the test says of an fpage
pub aligned_from : (f : Flexpage) → IsTrue (is_aligned f.first f.count) → IsAligned f
aligned_from f is = by (or_cases _ _ is)
  where
    by : ((f.count == 0) ≡ true) ⊎ ((is_power_of_two f.count && (f.first % f.count == 0)) ≡ true) → IsAligned f
    by (inl none) = no_pages (eqb-true f.count 0 none)
    by (inr some) =
        let parts = and_parts _ _ some in
        let power = power_below f.count f.count (omega arith) (eqb-true (ones f.count) 1 parts.0) in
        some_pages power.0 power.1 (eqb-true (f.first % f.count) 0 parts.1)

-- a power of two of pages, from a multiple of their number on, passes the test
pub power_aligned : (first k : ℕ) → first % 2 ^ k ≡ 0 → IsTrue (is_aligned first (2 ^ k))
power_aligned first k even = or_right _ _ (and_from _ _ (eq-eqb (ones (2 ^ k)) 1 (ones-pow k)) (eq-eqb (first % 2 ^ k) 0 even))
