-- Numbers for runs of 256 shards, with bits for their runs of 16.
use Rattle.std.specs.Prelude.{◌≡◌, ℕ, ◌+◌, ◌<◌}
use Rattle.std.specs.Int.{bit_at}

-- each run of 16 that has a shard may have a live one, and no bit is lost
pub record IsRevived (old new : ℕ) : Type 0 where
  pub life : (leaf : ℕ) → leaf < 16 → bit_at new leaf ≡ 0 → bit_at old (16 + leaf) ≡ 0
  pub there : (i : ℕ) → bit_at new i ≡ 0 → bit_at old i ≡ 0
