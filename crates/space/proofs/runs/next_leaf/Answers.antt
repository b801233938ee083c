-- The bit above those of the runs of 16 ends the search.
use Rattle.std.proofs.Common.{◌≡◌, ◌∙◌, sym, ap, arith, ℕ, ◌+◌, ◌-◌, ◌/◌, ◌^◌, ◌<◌, ◌≤◌, inl, inr, bit_or, w32}
use Rattle.std.specs.Int.{bit_at, trailing_zeros}
use Rattle.std.proofs.Math.Facts.{Fits-lt-pow}
use Rattle.std.proofs.lemmas.Nat.{or_lt, shr_le}
use Rattle.std.proofs.lemmas.Nat.Bits.{bit_at-trailing_zeros, bit_at_set_same, bit_at-zero}
use Rattle.space.proofs.Leaves.{within_or_past, positive}
use Rattle.space.proofs.RunBits.{bit_shifted, left_none}
use Rattle.space.proofs.runs.next_leaf.Goals as goal

module _ (number from : ℕ) (small : bit_or number 65536 < 2 ^ 32) (low : from < 16) where
  abbrev bits : ℕ
  bits = bit_or number 65536 / 2 ^ from

  last : bit_at bits (16 - from) ≡ 1
  last =
      let at : from + (16 - from) ≡ 16 = omega (arith, low) in
      bit_shifted (bit_or number 65536) from (16 - from) ∙ ap (bit_at (bit_or number 65536)) at ∙ bit_at_set_same w32 number 16 (omega arith)

  lowest : (trailing_zeros w32 bits < 32) × (bit_at bits (trailing_zeros w32 bits) ≡ 1) × ((i : ℕ) → i < trailing_zeros w32 bits → bit_at bits i ≡ 0)
  lowest =
      bit_at-trailing_zeros w32 bits (positive bits (λ none. absurd (omega (arith, sym last ∙ ap (λ n. bit_at n (16 - from)) none ∙ bit_at-zero (16 - from)))))
      (omega (arith, shr_le (bit_or number 65536) from, small))

  within : from + trailing_zeros w32 bits ≤ 16
  within = elim (within_or_past (16 - from) (trailing_zeros w32 bits)) as (λ _. from + trailing_zeros w32 bits ≤ 16) [
    | inl behind ↦ absurd (omega (arith, sym last ∙ lowest.2 (16 - from) behind))
    | inr upto ↦ omega (arith, upto, low)
  ]

  none_before : (leaf : ℕ) → from ≤ leaf → leaf < from + trailing_zeros w32 bits → bit_at number leaf ≡ 0
  none_before leaf upper before =
      let at : from + (leaf - from) ≡ leaf = omega (arith, upper) in
      left_none number 65536 leaf (ap (bit_at (bit_or number 65536)) (sym at) ∙ sym (bit_shifted (bit_or number 65536) from (leaf - from)) ∙ lowest.2 (leaf - from) (omega (arith, upper, before)))

pub returns-clause-end : goal.returns-clause-end
returns-clause-end c = within c.args.number c.args.from (or_lt 32 c.args.number 65536 (Fits-lt-pow c.ranges.number) (omega arith)) c.requires

pub returns-clause-dead : goal.returns-clause-dead
returns-clause-dead c = none_before c.args.number c.args.from (or_lt 32 c.args.number 65536 (Fits-lt-pow c.ranges.number) (omega arith)) c.requires
