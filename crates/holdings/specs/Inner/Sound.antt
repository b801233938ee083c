-- What words and trees keep while a database is not halted.
use Rattle.std.specs.Prelude.{◌≡◌, ℕ, ◌<◌, true, List, length, Some, IsFalse}
use Rattle.space.specs.Shards.{HasWord, word_count, entry_at, spaces_of, bits_of, is_taken}
use Rattle.space.specs.declared.place.Entry.{Entry}
use Rattle.space.specs.declared.place.Place.{Place}
use Rattle.space.specs.declared.shards.Shards.{Shards}
use Rattle.maptree.specs.Origins.{Shape}
use Rattle.model.specs.Definitions.Calls.{Limits}
use Rattle.model.specs.Definitions.Lawful.{is_lawful}
use Rattle.model.specs.Definitions.Records.{are_limits}
use Rattle.holdings.specs.Inner.Held.{is_place, is_listed, has_frame, holdings_of, limits_in, holdings_in}
use Rattle.holdings.specs.Places.{IsWithin}

-- words and trees fit the limits, and each held place stands in the tree of its frame
pub record IsFitting (limits : Limits) (shards : Shards) (trees : List Shape) : Type 0 where
  pub served : are_limits limits ≡ true
  pub spaces : spaces_of shards ≡ limits.spaces
  pub bits : bits_of shards ≡ limits.bits
  pub present : IsFalse (is_taken shards)
  -- some shard is there, since some page was held at the start
  pub some : 0 < word_count shards
  -- as many trees as frames
  pub count : length trees ≡ limits.frames
  -- each held place has one of the frames
  pub frame : (p : Place) (e : Entry) → IsWithin limits p → entry_at shards p ≡ Some e → e.frame < limits.frames
  -- and stands in the tree of its frame
  pub listed : (p : Place) (e : Entry) → IsWithin limits p → entry_at shards p ≡ Some e → is_listed trees e.frame p ≡ true

-- besides, what is held is lawful; a tree may still list other places
pub record IsKept (limits : Limits) (shards : Shards) (trees : List Shape) : Type 0 where
  pub fits : IsFitting limits shards trees
  pub lawful : is_lawful (holdings_of limits shards trees) ≡ true

-- a tree lists no other places
pub record IsPruned (limits : Limits) (shards : Shards) (trees : List Shape) : Type 0 where
  -- a place in a tree is within the limits
  pub within : (frame : ℕ) (p : Place) → is_listed trees frame p ≡ true → is_place limits p ≡ true
  -- and holds the frame of the tree
  pub held : (frame : ℕ) (p : Place) → is_listed trees frame p ≡ true → has_frame frame (entry_at shards p) ≡ true

-- all of this: the trees' places are the held places, each in the tree of its frame
pub record IsSound (limits : Limits) (shards : Shards) (trees : List Shape) : Type 0 where
  pub kept : IsKept limits shards trees
  pub pruned : IsPruned limits shards trees

-- sound words and trees
abbrev pub AreSound : Shards → List Shape → Type 0
AreSound shards trees = IsSound (limits_in shards trees) shards trees

-- as sound ones, but a tree may list places that hold nothing any more
pub record AreLoose (shards : Shards) (trees : List Shape) : Type 0 where
  pub fits : IsFitting (limits_in shards trees) shards trees
  pub within : (frame : ℕ) (p : Place) → is_listed trees frame p ≡ true → is_place (limits_in shards trees) p ≡ true
  pub frames : (frame : ℕ) (p : Place) (e : Entry) → is_listed trees frame p ≡ true → entry_at shards p ≡ Some e → e.frame ≡ frame
  -- and its shard is there
  pub words : (frame : ℕ) (p : Place) → is_listed trees frame p ≡ true → HasWord shards p
  pub lawful : is_lawful (holdings_in shards trees) ≡ true
