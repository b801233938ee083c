-- The index of each place's word, by the shard of the place.
use Rattle.std.proofs.Common.{◌≡◌, ◌∙◌, ap, arith, ℕ, ◌+◌, ◌-◌, ◌*◌, ◌/◌, ◌%◌, ◌^◌, ◌<◌, ◌≤◌}
use Rattle.std.proofs.Math.Pow.{pow-add, pow_mono}
use Rattle.std.proofs.lemmas.Nat.{mul-le, mul-add-lt, same_from_place, shl_whole}
use Rattle.space.specs.declared.place.Place.{Place}
use Rattle.space.specs.Directory.{pages_of, shards_of, shard_of, offset_of}

-- 64 pages of 4096 bytes are 2^18 bytes
pub pages_are : (bits : ℕ) → 18 ≤ bits → pages_of bits ≡ 64 * shards_of bits
pages_are bits low = let split : bits - 12 ≡ 6 + (bits - 18) = omega arith in ap (λ n. 2 ^ n) split ∙ pow-add 2 6 (bits - 18)

module _ (bits : ℕ) (low : 18 ≤ bits) (p : Place) (page : p.page < pages_of bits) where
  -- the shard of a page is one of its space's
  pub shard_in_space : p.page / 64 < shards_of bits
  shard_in_space = omega (arith, pages_are bits low)

  pub shard_found : (spaces : ℕ) → p.space < spaces → shard_of bits p < spaces * shards_of bits
  shard_found spaces space = omega (arith, mul-add-lt p.space (shards_of bits) (p.page / 64) spaces space shard_in_space)

module _ (bits : ℕ) (low : 18 ≤ bits) (p q : Place) (p_page : p.page < pages_of bits) (q_page : q.page < pages_of bits) where
  -- places of one shard are of one space, and of the same 64 pages
  pub same_parts : shard_of bits p ≡ shard_of bits q → (p.space ≡ q.space) × (p.page / 64 ≡ q.page / 64)
  same_parts shard = same_from_place p.space (p.page / 64) q.space (q.page / 64) (shards_of bits) (shard_in_space bits low p p_page) (shard_in_space bits low q q_page) shard

  -- places of one shard, whose words stand at one place in it, are one
  pub same_shard : shard_of bits p ≡ shard_of bits q → offset_of p ≡ offset_of q → p ≡ q
  same_shard shard rest =
      let parts = same_parts shard in
      let block : p.page / 64 ≡ q.page / 64 = parts.1 in
      let page : p.page ≡ q.page = omega (arith, parts.0, block, rest) in
      λ i. record { space = parts.0 i; page = page i }

-- a space has so many pages at most
pub few_pages : (bits : ℕ) → bits ≤ 32 → pages_of bits ≤ 2 ^ 20
few_pages bits high = let low : bits - 12 ≤ 20 = omega (arith, high) in let most : pages_of bits ≤ 2 ^ 20 = pow_mono low in most

-- a shift of a small number is the product of the definition
pub shifted : (a k w : ℕ) → k ≤ 14 → a < 2 ^ 16 → 30 ≤ w → a * 2 ^ k % 2 ^ w ≡ a * 2 ^ k
shifted a k w few small wide = shl_whole a 16 k w small (omega arith)

-- there are no more shards than a directory can have
pub few_shards : (spaces bits : ℕ) → spaces ≤ 512 → bits ≤ 32 → spaces * shards_of bits ≤ 2 ^ 23
few_shards spaces bits few high =
    let low : bits - 18 ≤ 14 = omega (arith, high) in
    let most : shards_of bits ≤ 2 ^ 14 = pow_mono low in
    times spaces (shards_of bits) few most
  where
    times : (a b : ℕ) → a ≤ 512 → b ≤ 2 ^ 14 → a * b ≤ 2 ^ 23
    times a b a_few b_few = let most : a * b ≤ 512 * 2 ^ 14 = mul-le a b 512 (2 ^ 14) a_few b_few in most
