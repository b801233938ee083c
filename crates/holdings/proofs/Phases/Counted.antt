-- What becomes of transfers, by the words and by what is held.
use Rattle.std.proofs.Common.{◌≡◌, suc, List, [], ◌∷◌, Option, Some, None, refl, sym, ap, ◌∙◌, arith}
use Rattle.std.specs.Prelude.{is_some}
use Rattle.std.specs.List.{All}
use Rattle.std.specs.Option.{option_map}
use Rattle.space.specs.declared.place.Place.{Place}
use Rattle.space.specs.declared.shards.Shards.{Shards}
use Rattle.maptree.specs.Origins.{Shape}
use Rattle.model.specs.Definitions.Holdings.{Held, at, is_held}
use Rattle.model.specs.Definitions.Items.{add_counts, counts_of}
use Rattle.holdings.specs.Contents.{entry_of}
use Rattle.holdings.specs.Places.{IsWithin}
use Rattle.holdings.specs.Sending.{IsTransferWithin, fate_in, counts_after_flush}
use Rattle.holdings.specs.declared.transfer.Transfer.{Transfer}
use Rattle.holdings.specs.Inner.Held.{has_entry, holdings_in, limits_in}
use Rattle.holdings.specs.Inner.Planning.{counts_in}
use Rattle.holdings.proofs.Contents.Holders.{entry_within}

module _ (s : Shards) (trees : List Shape) where
  -- a place has an entry where it is held
  pub held_by_word : (p : Place) → IsWithin (limits_in s trees) p → has_entry s p ≡ is_held (holdings_in s trees) p
  held_by_word p within = ap is_some (sym (entry_within (limits_in s trees) s trees p within)) ∙ by (at (holdings_in s trees) p)
    where
      by : (o : Option Held) → is_some (option_map entry_of o) ≡ is_some o
      by None = refl
      by (Some m) = refl

  pub counted_by_words : (ts : List Transfer) → All (IsTransferWithin (limits_in s trees)) ts → counts_in s ts ≡ counts_after_flush (holdings_in s trees) ts
  counted_by_words [] within = refl
  counted_by_words (t ∷ ts) within =
      let t_in = within 0 t (omega arith) in
      let held = held_by_word t.source (record { space = t_in.source_space; page = t_in.source_page }) in
      let rest = counted_by_words ts (λ k d less. within (suc k) d (omega (arith, less))) in
      λ i. add_counts (counts_of (fate_in t) (held i)) (rest i)
