-- Shards with other words in the place of their own.
use Rattle.std.proofs.Common.{◌≡◌, ℕ, List, length, sym, ap, ◌∙◌, arith}
use Rattle.std.specs.Prelude.{IsFalse}
use Rattle.std.specs.List.{AllPass}
use Rattle.std.specs.Option.{option_map}
use Rattle.space.specs.declared.place.Place.{Place}
use Rattle.space.specs.declared.shards.Shards.{Shards}
use Rattle.space.specs.Word.{is_pack}
use Rattle.maptree.specs.Origins.{Shape}
use Rattle.model.specs.Definitions.Calls.{Limits}
use Rattle.model.specs.Definitions.Lawful.{is_lawful}
use Rattle.holdings.specs.Places.{IsWithin}
use Rattle.holdings.specs.Inner.Held.{held_of, held_at, has_frame, holdings_of}
use Rattle.holdings.specs.Inner.Sound.{IsFitting, IsSound}
use Rattle.holdings.proofs.Contents.Listing.{listing_same, within_from_place}
use Rattle.holdings.proofs.Contents.Holders.{place_within}
use Rattle.space.specs.Shards.{IsPlace, word_count, entry_at, is_taken, IsLaidOutAs}
use Rattle.holdings.specs.Inner.Words.{AreWordsOf, IsWith}
use Rattle.space.proofs.ShardWords.{shards_have_words, words_have_shards}

-- there are such shards
pub with_words : (s : Shards) → IsFalse (is_taken s) → (w : List ℕ) → length w ≡ word_count s → AllPass is_pack w → (n : Shards) × IsWith s w n
with_words s present w count packs =
    let found = words_have_shards s present w count packs in
    let are = found.1.are in
    (found.0, record { words = record { count = are.count; packs = are.packs; entries = are.entries }; present = found.1.present; layout = found.1.layout })

-- shards that have words have some of their own
pub own_words : (s : Shards) → IsFalse (is_taken s) → (w : List ℕ) × AreWordsOf s w
own_words s present =
    let found = shards_have_words s present in
    (found.0, record { count = found.1.count; packs = found.1.packs; entries = found.1.entries })

-- ---- the same entries

module _ (limits : Limits) (old new : Shards) (trees : List Shape) (fits : IsFitting limits old trees) (present : IsFalse (is_taken new)) (layout : IsLaidOutAs old new)
    (same : (p : Place) → IsPlace old p → entry_at new p ≡ entry_at old p) where
  same_within : (p : Place) → IsWithin limits p → entry_at new p ≡ entry_at old p
  same_within p within = same p (place_within limits old trees fits p within)

  -- the same is held
  pub same_holdings : holdings_of limits new trees ≡ holdings_of limits old trees
  same_holdings = listing_same limits (held_at new trees) (held_at old trees) (λ p within. ap (option_map (held_of trees p)) (same_within p within))

  pub same_fits : IsFitting limits new trees
  same_fits = record {
    served = fits.served;
    spaces = layout.spaces ∙ fits.spaces;
    bits = layout.bits ∙ fits.bits;
    present = present;
    some = omega (arith, fits.some, layout.count);
    count = fits.count;
    frame = λ p e within is. fits.frame p e within (sym (same_within p within) ∙ is);
    listed = λ p e within is. fits.listed p e within (sym (same_within p within) ∙ is);
  }

  -- and sound words stay sound
  pub same_sound : IsSound limits old trees → IsSound limits new trees
  same_sound sound = record {
    kept = record { fits = same_fits; lawful = ap is_lawful same_holdings ∙ sound.kept.lawful };
    pruned = record {
      within = sound.pruned.within;
      held = λ frame p listed. ap (has_frame frame) (same_within p (within_from_place limits p (sound.pruned.within frame p listed))) ∙ sound.pruned.held frame p listed;
    };
  }
