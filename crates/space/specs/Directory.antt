-- Where the word of a place stands: words lie in shards of 64 pages of one space, found through a directory (profile).
use Rattle.std.specs.Prelude.{◌≡◌, ℕ, ◌+◌, ◌-◌, ◌*◌, ◌/◌, ◌%◌, ◌^◌, ◌≤◌, List, length, slice_index}
use Rattle.std.specs.List.{AllPass}
use Rattle.std.specs.declared.alloc.Global.{Global}
use Rattle.std.specs.declared.vec.Vec.{Vec}
use Rattle.space.specs.declared.place.Place.{Place}
use Rattle.space.specs.Word.{is_pack}

-- how many pages of 4096 bytes a space of so many bytes, as a power of two, has
abbrev pub pages_of : ℕ → ℕ
pages_of bits = 2 ^ (bits - 12)

-- how many shards of 64 pages a space has
abbrev pub shards_of : ℕ → ℕ
shards_of bits = 2 ^ (bits - 18)

-- the number of a place's shard: shards are numbered by space, and then by page
abbrev pub shard_of : ℕ → Place → ℕ
shard_of bits p = p.space * shards_of bits + p.page / 64

-- where in its shard the word of a place stands: from one space to the next 8 words farther on, and round to the front
abbrev pub offset_of : Place → ℕ
offset_of p = (p.page + p.space * 8) % 64

-- 2 to 512 spaces of 2^18 to 2^32 bytes (profile)
pub record AreLimits (spaces bits : ℕ) : Type 0 where
  pub some : 2 ≤ spaces
  pub few : spaces ≤ 512
  pub low : 18 ≤ bits
  pub high : bits ≤ 32

-- packs, as many as so many shards have
pub record AreWords (shards : ℕ) (words : Vec ℕ Global) : Type 0 where
  pub count : length words.items ≡ shards * 64
  pub packs : AllPass is_pack words.items

-- the words of a dead shard, one that is known to hold nothing, are 0
abbrev pub AreLive : List ℕ → Vec ℕ Global → Type 0
AreLive live words = (i : ℕ) → slice_index live (i / 64) ≡ 0 → slice_index words.items i ≡ 0
