-- The origins of the pages that are held, each at the index of the page's word.
use Rattle.std.specs.Prelude.{◌≡◌, ℕ, ◌<◌, List, length, Option, Some, get_or, if◌then◌else◌}
use Rattle.space.specs.declared.place.Place.{Place}
use Rattle.space.specs.declared.place.Entry.{Entry}
use Rattle.space.specs.declared.shards.Shards.{Shards}
use Rattle.space.specs.Shards.{IsPlace, index_of, entry_at, words_of}
use Rattle.maptree.specs.Origins.{Origins, Shape, origin_in}
use Rattle.holdings.specs.Inner.Derivation.{stands_in}
use Rattle.holdings.specs.Inner.Held.{links_in}

-- there is one for each word, and those of pages of so many frames stand there
pub record AreOrigins (shards : Shards) (trees : List Shape) (frames : ℕ) (origins : List (Option Place)) : Type 0 where
  pub count : length origins ≡ length (words_of shards)
  pub stand : (p : Place) (e : Entry) (d : Option Place) → IsPlace shards p → entry_at shards p ≡ Some e → e.frame < frames
      → get_or origins (index_of shards p) d ≡ origin_in (links_in trees e.frame) p

-- those of the places of a tree were put there, and others stayed
pub record ArePut (shards : Shards) (os : Origins) (old new : List (Option Place)) : Type 0 where
  pub count : length new ≡ length old
  pub put : (p : Place) (d : Option Place) → IsPlace shards p
      → get_or new (index_of shards p) d ≡ (if stands_in os p then origin_in os p else get_or old (index_of shards p) d)
