-- Pages that move.
use Rattle.std.specs.List.{list_any, All}
use Rattle.std.specs.Prelude.{◌≡◌, ℕ, ◌<◌, true, List, length, Option, Some, None, ◌==◌, Bool, false, IsFalse}
use Rattle.fpage.specs.Rights.{no_rights}
use Rattle.space.specs.Place.{same_place}
use Rattle.space.specs.Shards.{IsPlace, entry_at, is_taken, IsLaidOutAs}
use Rattle.space.specs.declared.place.Entry.{Entry}
use Rattle.space.specs.declared.place.Place.{Place}
use Rattle.space.specs.declared.shards.Shards.{Shards}
use Rattle.maptree.specs.Origins.{Shape}
use Rattle.maptree.specs.PlaceMaps.{IsApart}
use Rattle.maptree.specs.Renamings.{all_renamed, StayApart}
use Rattle.holdings.specs.Inner.Held.{links_in, is_listed}
use Rattle.holdings.specs.Inner.Links.{last_target}
use Rattle.holdings.specs.declared.link.Link.{Link}

-- whether there is one of the frame
abbrev pub is_of_frame : List Link → ℕ → Bool
is_of_frame ls f = list_any (λ l. l.frame == f) ls

-- in trees each source, which stands in that of its frame, can become its target: no two places of a tree become one
pub record AreMovable (trees : List Shape) (ls : List Link) : Type 0 where
  pub space : ℕ
  pub sources : All (λ l. l.source.space ≡ space) ls
  pub targets : All (λ l. l.target.space ≡ space → ⊥) ls
  pub frames : All (λ l. l.frame < length trees) ls
  pub there : All (λ l. is_listed trees l.frame l.source ≡ true) ls
  pub apart : (f : ℕ) → StayApart (λ p. last_target ls p None) (links_in trees f)

-- places can be replaced in trees by others: no two places of a tree become one, and what stands for a place is replaced by nothing
pub record CanBeRenamed (new : Place → Option Place) (trees : List Shape) : Type 0 where
  pub apart : (f : ℕ) → StayApart new (links_in trees f)
  pub last : IsApart new

-- places were replaced in the trees of these frames
pub record AreRenamed (new : Place → Option Place) (ls : List Link) (old now : List Shape) : Type 0 where
  pub count : length now ≡ length old
  pub there : (f : ℕ) → is_of_frame ls f ≡ true → links_in now f ≡ all_renamed new (links_in old f)
  pub elsewhere : (f : ℕ) → is_of_frame ls f ≡ false → links_in now f ≡ links_in old f

-- the words after a page moved that held this
pub record IsPageMoved (old new : Shards) (source target : Place) (e : Entry) : Type 0 where
  pub gone : entry_at new source ≡ None
  pub there : entry_at new target ≡ Some (record e { status = no_rights })
  pub elsewhere : (p : Place) → IsPlace old p → same_place p source ≡ false → same_place p target ≡ false → entry_at new p ≡ entry_at old p
  pub present : IsFalse (is_taken new)
  pub layout : IsLaidOutAs old new
