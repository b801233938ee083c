-- Sound words and trees are consistent.
use Rattle.std.proofs.Common.{List, sym}
use Rattle.space.specs.declared.shards.Shards.{Shards}
use Rattle.maptree.specs.Origins.{Shape}
use Rattle.model.specs.Definitions.Holdings.{at}
use Rattle.holdings.specs.Inner.Held.{held_at, contents_of, limits_in}
use Rattle.holdings.specs.Places.{listing}
use Rattle.holdings.specs.Contents.{IsConsistent}
use Rattle.holdings.specs.Inner.Sound.{AreSound}
use Rattle.holdings.proofs.Contents.Layouts.{layout_of_held}
use Rattle.holdings.proofs.Contents.Listing.{listing_same, at_within}

pub consistent : (shards : Shards) (trees : List Shape) → AreSound shards trees → IsConsistent (contents_of shards trees)
consistent shards trees sound =
    let l = limits_in shards trees in
    let held = held_at shards trees in
    record {
      served = sound.kept.fits.served;
      listed = listing_same l held (at (listing l held)) (λ p within. sym (at_within held l p within));
      lawful = sound.kept.lawful;
      words = layout_of_held shards trees sound;
    }
