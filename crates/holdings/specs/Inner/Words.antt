-- Words taken out of shards, and others put in their place.
use Rattle.std.specs.Prelude.{◌≡◌, ℕ, List, length, map, slice_index, IsFalse}
use Rattle.std.specs.List.{AllPass}
use Rattle.space.specs.declared.place.Place.{Place}
use Rattle.space.specs.declared.shards.Shards.{Shards}
use Rattle.space.specs.Shards.{IsPlace, HasWord, index_of, word_count, entry_at, is_taken, IsLaidOutAs}
use Rattle.space.specs.Word.{is_pack, entry_of}
use Rattle.pieces.specs.Applied.{worked}
use Rattle.pieces.specs.Gathering.{IsGathered}
use Rattle.pieces.specs.Phases.{CanBeWorked}
use Rattle.pieces.specs.Values.{value}
use Rattle.pieces.specs.declared.gathering.Gathered.{Gathered}
use Rattle.pieces.specs.declared.piece.Piece.{Piece}

-- a page of one of the spaces whose shard is there
pub record IsThere (s : Shards) (p : Place) : Type 0 where
  pub place : IsPlace s p
  pub word : HasWord s p

-- words of shards: as many, packs, and each place's word says what stands there; nothing does where there is none
pub record AreWordsOf (s : Shards) (w : List ℕ) : Type 0 where
  pub count : length w ≡ word_count s
  pub packs : AllPass is_pack w
  pub entries : (p : Place) → IsPlace s p → entry_of (slice_index w (index_of s p)) ≡ entry_at s p

-- shards with these words, laid out as others
pub record IsWith (s : Shards) (w : List ℕ) (n : Shards) : Type 0 where
  pub words : AreWordsOf n w
  pub present : IsFalse (is_taken n)
  pub layout : IsLaidOutAs s n

-- a phase was worked: from words of the old shards the new ones have what its pieces make of them, and what these found was gathered
pub record IsPhaseWorked (old new : Shards) (ps : List Piece) (g : Gathered) : Type 0 where
  pub words : List ℕ
  pub are : AreWordsOf old words
  pub with : IsWith old (worked words ps) new
  pub found : IsGathered (map (value words) ps) g

-- whatever the words of the shards are, the pieces can be worked
abbrev pub CanBeWorkedIn : Shards → List Piece → Type 0
CanBeWorkedIn s ps = (w : List ℕ) → AreWordsOf s w → CanBeWorked w ps

-- a phase wrote: from words of the old shards the new ones have what its pieces make of them
pub record IsWritten (old new : Shards) (ps : List Piece) : Type 0 where
  pub words : List ℕ
  pub are : AreWordsOf old words
  pub with : IsWith old (worked words ps) new
