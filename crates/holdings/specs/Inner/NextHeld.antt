-- The next page of a space that has an entry.
use Rattle.std.specs.Prelude.{◌≡◌, ◌<◌, ◌≤◌, Some, None}
use Rattle.space.specs.declared.place.Entry.{Entry}
use Rattle.space.specs.declared.place.Place.{Place}
use Rattle.space.specs.declared.shards.Shards.{Shards}
use Rattle.space.specs.Directory.{pages_of}
use Rattle.space.specs.Shards.{bits_of, entry_at}

-- it has this entry, and no page before it has one
pub record IsNextHeld (s : Shards) (from q : Place) (e : Entry) : Type 0 where
  pub space : q.space ≡ from.space
  pub from_on : from.page ≤ q.page
  pub page : q.page < pages_of (bits_of s)
  pub there : entry_at s q ≡ Some e
  pub skipped : (p : Place) → p.space ≡ from.space → from.page ≤ p.page → p.page < q.page → entry_at s p ≡ None
