-- Bits of the numbers for runs of shards.
use Rattle.std.proofs.Common.{◌≡◌, ◌∙◌, sym, ap, arith, ℕ, ◌+◌, ◌/◌, ◌%◌, ◌^◌, bit_or}
use Rattle.std.specs.Int.{bit_at}
use Rattle.std.proofs.Math.Nat.{div-div-eq-div-mul}
use Rattle.std.proofs.lemmas.Nat.{pow-add}
use Rattle.std.proofs.lemmas.Nat.Bits.{bit_at_or}

-- a bit of a number that is shifted down stood so much higher
pub bit_shifted : (n k i : ℕ) → bit_at (n / 2 ^ k) i ≡ bit_at n (k + i)
bit_shifted n k i = ap (λ m. m % 2) (div-div-eq-div-mul n (2 ^ k) (2 ^ i)) ∙ ap (λ m. n / m % 2) (sym (pow-add 2 k i))

-- a bit that is 0 of two numbers joined is 0 in each
pub left_none : (a b i : ℕ) → bit_at (bit_or a b) i ≡ 0 → bit_at a i ≡ 0
left_none a b i none = let or = bit_at_or a b i in omega arith

pub right_none : (a b i : ℕ) → bit_at (bit_or a b) i ≡ 0 → bit_at b i ≡ 0
right_none a b i none = let or = bit_at_or a b i in omega arith
