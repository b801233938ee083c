-- Pages of a space.
use Rattle.std.proofs.Common.{◌≡◌, ℕ, ◌+◌, ◌-◌, ◌*◌, ◌/◌, ◌^◌, ◌<◌, ◌≤◌, ◌%◌, ap, ◌∙◌, arith, pow-add, pow_mono}
use Rattle.std.proofs.Math.Nat.{mod-eq_of_lt}
use Rattle.space.specs.Directory.{pages_of}

-- the page of an address below the end of a space
pub page_within : (bits address : ℕ) → 18 ≤ bits → address < 2 ^ bits → address / 4096 < pages_of bits
page_within bits address low below =
    let split : bits ≡ 12 + (bits - 12) = omega (arith, low) in
    let bytes : 2 ^ bits ≡ 4096 * 2 ^ (bits - 12) = ap (λ n. 2 ^ n) split ∙ pow-add 2 12 (bits - 12) in
    omega (arith, bytes, below)

-- one, shifted by the bits of a space
pub shifted : (bits : ℕ) → bits ≤ 32 → 1 * 2 ^ bits % 2 ^ 64 ≡ 2 ^ bits
shifted bits high =
    let small : 2 ^ bits ≤ 2 ^ 32 = pow_mono high in
    let one : 1 * 2 ^ bits < 2 ^ 64 = omega arith in
    mod-eq_of_lt one ∙ omega arith
