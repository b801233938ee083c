-- What limits that are served say in numbers.
use Rattle.std.proofs.Common.{◌≡◌, ℕ, ◌-◌, ◌^◌, ◌≤◌, nat_le, ◌&&◌, true, arith, pow_mono}
use Rattle.std.proofs.lemmas.Bool.Decides.{nat_tests}
use Rattle.space.specs.Directory.{pages_of}
use Rattle.model.specs.Definitions.Calls.{Limits}
use Rattle.model.specs.Definitions.Records.{are_limits}

pub record AreServed (l : Limits) : Type 0 where
  pub spaces : l.spaces ≤ 512
  pub low : 18 ≤ l.bits
  pub high : l.bits ≤ 32

pub served : (l : Limits) → are_limits l ≡ true → AreServed l
served l are =
    let parts = three l.spaces l.bits l.frames (pages_of l.bits) are in
    record { spaces = parts.0; low = parts.1; high = parts.2 }
  where
    three : (s b f n : ℕ) → (nat_le 2 s && nat_le s 512 && nat_le 18 b && nat_le b 32 && nat_le 1 f && nat_le f n) ≡ true → (s ≤ 512) × (18 ≤ b) × (b ≤ 32)
    three s b f n is = grind (arith, nat_tests)

-- a space has not many pages
pub few : (l : Limits) → are_limits l ≡ true → pages_of l.bits ≤ 2 ^ 20
few l are = let high = (served l are).high in let most : l.bits - 12 ≤ 20 = omega (arith, high) in pow_mono most
