-- What is so of all shards.
use Rattle.std.specs.Prelude.{◌≡◌, ℕ, List, length, Some, slice_index, IsFalse}
use Rattle.std.specs.List.{AllPass}
use Rattle.space.specs.declared.place.Place.{Place}
use Rattle.space.specs.declared.place.Entry.{Entry}
use Rattle.space.specs.declared.shards.Shards.{Shards}
use Rattle.space.specs.Word.{entry_of, is_pack, FrameFits}
use Rattle.space.specs.Shards.{IsPlace, HasWord, index_of, word_count, is_taken, entry_at, IsLaidOutAs}

-- what is held has a word
abbrev pub HeldHaveWords : Type 0
HeldHaveWords = (s : Shards) (p : Place) (e : Entry) → entry_at s p ≡ Some e → HasWord s p

-- distinct places have distinct words
abbrev pub WordsAreTheirOwn : Type 0
WordsAreTheirOwn = (s : Shards) (p q : Place) → IsPlace s p → IsPlace s q → HasWord s p → index_of s p ≡ index_of s q → p ≡ q

-- what stands at a place can be packed
abbrev pub EntriesFit : Type 0
EntriesFit = (s : Shards) (p : Place) → FrameFits (entry_at s p)

-- the words of all shards that are there: packs that say what stands at each place, and behind them nothing does
pub record AreAllWords (s : Shards) (words : List ℕ) : Type 0 where
  pub count : length words ≡ word_count s
  pub packs : AllPass is_pack words
  pub entries : (p : Place) → IsPlace s p → entry_of (slice_index words (index_of s p)) ≡ entry_at s p

-- shards with these words, laid out as others
pub record IsWithWords (old new : Shards) (words : List ℕ) : Type 0 where
  pub are : AreAllWords new words
  pub present : IsFalse (is_taken new)
  pub layout : IsLaidOutAs old new

-- whatever stands in shards, there are words that say so
abbrev pub ShardsHaveWords : Type 0
ShardsHaveWords = (s : Shards) → IsFalse (is_taken s) → (words : List ℕ) × AreAllWords s words

-- any packs, as many as there are words, are the words of some shards
abbrev pub WordsHaveShards : Type 0
WordsHaveShards =
    (s : Shards) → IsFalse (is_taken s) → (words : List ℕ) → length words ≡ word_count s → AllPass is_pack words → (new : Shards) × IsWithWords s new words
