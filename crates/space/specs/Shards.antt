-- What shards hold: a map from place to entry, and the index of each place's word.
use Rattle.std.specs.Prelude.{◌≡◌, ℕ, ◌+◌, ◌*◌, ◌/◌, ◌<◌, ◌≤◌, ◌⊎◌, ◌&&◌, ◌==◌, Bool, IsTrue, List, [], Option, is_none, slice_index}
use Rattle.std.specs.Option.{option_map_or}
use Rattle.space.specs.declared.place.Place.{Place}
use Rattle.space.specs.declared.place.Entry.{Entry}
use Rattle.space.specs.declared.shards.Shards.{Shards}
use Rattle.space.specs.Word.{entry_of}
use Rattle.space.specs.Directory.{pages_of, shard_of, offset_of}
use Rattle.space.specs.Positions.{count_of, position_in}

-- how many spaces there are
abbrev pub spaces_of : Shards → ℕ
spaces_of s = s.spaces

-- how many bytes a space has, as a power of two
abbrev pub bits_of : Shards → ℕ
bits_of s = s.bits

-- a page of one of the spaces
pub record IsPlace (s : Shards) (p : Place) : Type 0 where
  pub space : p.space < spaces_of s
  pub page : p.page < pages_of (bits_of s)

-- how many words there are: those of the shards that are there
abbrev pub word_count : Shards → ℕ
word_count s = count_of s.directory.value * 64

-- which word is a place's; that of a place whose shard is not there lies behind all words
abbrev pub index_of : Shards → Place → ℕ
index_of s p = position_in s.directory.value (shard_of (bits_of s) p) * 64 + offset_of p

-- the shard of a place is there
abbrev pub HasWord : Shards → Place → Type 0
HasWord s p = index_of s p < word_count s

-- whether the words are taken
abbrev pub is_taken : Shards → Bool
is_taken s = is_none s.words

-- the words; none while they are taken
abbrev pub words_of : Shards → List ℕ
words_of s = option_map_or (λ words. words.items) s.words []

-- what stands at a place
abbrev pub entry_at : Shards → Place → Option Entry
entry_at s p = entry_of (slice_index (words_of s) (index_of s p))

-- the same limits, and each place's word where it was
pub record IsLaidOutAs (old new : Shards) : Type 0 where
  pub spaces : spaces_of new ≡ spaces_of old
  pub bits : bits_of new ≡ bits_of old
  pub count : word_count new ≡ word_count old
  pub index : (p : Place) → index_of new p ≡ index_of old p

-- the same limits and entries, and maybe more shards; a word that was there is where it was
pub record IsMade (old new : Shards) : Type 0 where
  pub spaces : spaces_of new ≡ spaces_of old
  pub bits : bits_of new ≡ bits_of old
  pub entries : (p : Place) → entry_at new p ≡ entry_at old p
  pub index : (p : Place) → HasWord old p → index_of new p ≡ index_of old p
  pub count : word_count old ≤ word_count new

-- whether two pages have their words in one shard: they are of the same 64 pages of one space
abbrev pub are_beside : Place → Place → Bool
are_beside q p = (q.space == p.space) && (q.page / 64 == p.page / 64)

-- a page that has a word had one before, or is one of these
pub record AreOnlyMade (old new : Shards) (made : Place → Bool) : Type 0 where
  pub each : (p : Place) → IsPlace new p → HasWord new p → (HasWord old p) ⊎ IsTrue (made p)

-- the entry is changed at that place alone
pub record IsSetAt (old new : Shards) (p : Place) (entry : Option Entry) : Type 0 where
  pub there : entry_at new p ≡ entry
  pub elsewhere : (q : Place) → IsPlace old q → (q ≡ p → ⊥) → entry_at new q ≡ entry_at old q
