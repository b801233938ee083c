-- Where each word says what it said, the same is held, wherever the words stand; and so where shards were made.
use Rattle.std.proofs.Common.{◌≡◌, ◌∙◌, List, length, sym, ap, subst, arith, ◌≤◌, get_or}
use Rattle.std.specs.List.{All}
use Rattle.std.specs.Prelude.{IsFalse, option_map}
use Rattle.fpage.specs.declared.rights.Rights.{Rights}
use Rattle.space.specs.declared.place.Place.{Place}
use Rattle.space.specs.declared.shards.Shards.{Shards}
use Rattle.space.specs.Shards.{HasWord, IsLaidOutAs, IsPlace, word_count, IsMade, entry_at, spaces_of, bits_of, is_taken}
use Rattle.space.proofs.Made.{place_on}
use Rattle.maptree.specs.Origins.{Shape}
use Rattle.model.specs.Definitions.Calls.{Limits}
use Rattle.model.specs.Definitions.Lawful.{is_lawful}
use Rattle.holdings.specs.Contents.{Contents, AreMapped, AreMoved, laid_out}
use Rattle.holdings.specs.Layout.{Layout, OnlyGrows}
use Rattle.holdings.specs.Places.{listing}
use Rattle.holdings.specs.Sending.{IsTransferWithin}
use Rattle.holdings.specs.Inner.Words.{IsThere}
use Rattle.holdings.specs.declared.transfer.Transfer.{Transfer}
use Rattle.holdings.specs.declared.transfer_counts.TransferCounts.{TransferCounts}
use Rattle.holdings.specs.Inner.Held.{contents_of, has_frame, held_of, holdings_of, layout_in, limits_in}
use Rattle.holdings.specs.Inner.Sound.{AreSound, IsSound}
use Rattle.holdings.proofs.Contents.Layouts.{made_grows, same_layout}

-- words that say what others said, in spaces like those of the others
pub record SayTheSame (old new : Shards) : Type 0 where
  pub entries : (p : Place) → entry_at new p ≡ entry_at old p
  pub spaces : spaces_of new ≡ spaces_of old
  pub bits : bits_of new ≡ bits_of old
  pub present : IsFalse (is_taken new)
  pub count : word_count old ≤ word_count new

-- shards that were made
pub made_says : (old new : Shards) → IsMade old new → IsFalse (is_taken new) → SayTheSame old new
made_says old new made present = record { entries = made.entries; spaces = made.spaces; bits = made.bits; present = present; count = made.count }

module _ (old new : Shards) (trees : List Shape) (same : SayTheSame old new) where
  same_limits : limits_in new trees ≡ limits_in old trees
  same_limits = λ i. record { spaces = same.spaces i; bits = same.bits i; frames = length trees }

  same_holdings : (l : Limits) → holdings_of l new trees ≡ holdings_of l old trees
  same_holdings l = λ i. listing l (λ p. option_map (held_of trees p) (same.entries p i))

  -- what they say is the same but for the layout
  same_contents : contents_of new trees ≡ laid_out (contents_of old trees) (layout_in new)
  same_contents = λ i. record {
    limits = same_limits i;
    holdings = listing (same_limits i) (λ p. option_map (held_of trees p) (same.entries p i));
    layout = layout_in new;
  }

  -- sound words stay sound
  pub sound_stays : AreSound old trees → AreSound new trees
  sound_stays sound = subst (λ (l : Limits). IsSound l new trees) (sym same_limits) (record {
    kept = record {
      fits = record {
        served = sound.kept.fits.served;
        spaces = same.spaces;
        bits = same.bits;
        present = same.present;
        some = omega (arith, sound.kept.fits.some, same.count);
        count = sound.kept.fits.count;
        frame = λ p e within is. sound.kept.fits.frame p e within (sym (same.entries p) ∙ is);
        listed = λ p e within is. sound.kept.fits.listed p e within (sym (same.entries p) ∙ is);
      };
      lawful = ap is_lawful (same_holdings (limits_in old trees)) ∙ sound.kept.lawful;
    };
    pruned = record {
      within = sound.pruned.within;
      held = λ frame p listed. ap (has_frame frame) (same.entries p) ∙ sound.pruned.held frame p listed;
    };
  })

-- ---- shards that were made

-- words and trees hold what was held, and some shards were made
pub record AreMadeFrom (held : Contents) (s : Shards) (trees : List Shape) : Type 0 where
  -- what they say is the same but for the layout
  pub view : contents_of s trees ≡ laid_out held (layout_in s)
  -- which only grew
  pub grows : OnlyGrows held.layout (layout_in s)

pub made_from : (old new : Shards) (trees : List Shape) → IsMade old new → IsFalse (is_taken new)
    → (held : Contents) → contents_of old trees ≡ held → AreMadeFrom held new trees
made_from old new trees made present held view = record {
  view = same_contents old new trees (made_says old new made present)
      ∙ ap (λ (c : Contents). laid_out c (layout_in new)) view;
  grows = subst (λ (c : Contents). OnlyGrows c.layout (layout_in new)) view (made_grows old new made);
}

-- what was done to these was done to what was held
module _ (held : Contents) (s : Shards) (trees : List Shape) (made : AreMadeFrom held s trees)
    (ts : List Transfer) where
  pub mapped_from : (rights : Rights) (r : Contents × TransferCounts)
      → AreMapped (contents_of s trees) ts rights r → AreMapped held ts rights r
  mapped_from rights r are =
      let from = subst (λ (c : Contents). AreMapped c ts rights r) made.view are in
      record { left = from.left; grows = λ p i is. from.grows p i (made.grows p i is); counted = from.counted }

  pub moved_from : (r : Contents × TransferCounts) → AreMoved (contents_of s trees) ts r → AreMoved held ts r
  moved_from r are =
      let from = subst (λ (c : Contents). AreMoved c ts r) made.view are in
      record { left = from.left; grows = λ p i is. from.grows p i (made.grows p i is); counted = from.counted }

-- where the words of targets were made, sources are pages and targets have words
pub made_there : (s n : Shards) (trees : List Shape) → IsMade s n → (held : Contents) → contents_of s trees ≡ held → (ts : List Transfer) → All (IsTransferWithin held.limits) ts → All (λ t. HasWord n t.target) ts
    → All (λ t. IsPlace n t.source × IsThere n t.target) ts
made_there s n trees made held is ts within there k d less =
    let t = get_or ts k d in
    let in_limits : IsTransferWithin (limits_in s trees) t = subst (λ (h : Contents). IsTransferWithin h.limits t) (sym is) (within k d less) in
    let source : IsPlace s t.source = record { space = in_limits.source_space; page = in_limits.source_page } in
    let target : IsPlace s t.target = record { space = in_limits.target_space; page = in_limits.target_page } in
    (place_on s n made t.source source, record { place = place_on s n made t.target target; word = there k d less })

-- where entries and layout stay, so do the contents
pub same_kept : (old new : Shards) (trees : List Shape) → IsMade old new → IsLaidOutAs old new → IsFalse (is_taken new) → (held : Contents) → contents_of old trees ≡ held → contents_of new trees ≡ held
same_kept old new trees made laid present held view =
    (made_from old new trees made present held view).view
    ∙ ap (λ (l : Layout). laid_out held l) (same_layout old new laid ∙ ap (λ (c : Contents). c.layout) view)
