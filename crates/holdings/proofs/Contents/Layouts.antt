-- Layouts of words: what stays where words stay, and what grows where shards are made.
use Rattle.std.proofs.Common.{◌≡◌, ℕ, true, false, Bool, ◌||◌, List, [], ◌∷◌, Option, Some, None, nat_lt}
use Rattle.std.proofs.Common.{if◌then◌else◌, refl, sym, ap, ◌∙◌, subst, arith, ◌<◌, ◌⊎◌, inl, inr}
use Rattle.std.specs.Option.{option_map}
use Rattle.std.specs.List.{list_any}
use Rattle.std.proofs.lemmas.Bool.{lt-ltb, ltb-true}
use Rattle.std.proofs.lemmas.Option.{same_Some}
use Rattle.space.specs.declared.place.Place.{Place}
use Rattle.space.specs.declared.place.Entry.{Entry}
use Rattle.space.specs.declared.shards.Shards.{Shards}
use Rattle.space.specs.Directory.{pages_of}
use Rattle.space.specs.Place.{same_place}
use Rattle.space.specs.Shards.{index_of, word_count, entry_at, spaces_of, bits_of}
use Rattle.space.specs.Shards.{HasWord, IsLaidOutAs, IsMade, IsPlace}
use Rattle.space.proofs.Places.{same_self, same_or_apart}
use Rattle.space.proofs.ShardWords.{held_have_words, words_are_their_own}
use Rattle.maptree.specs.Origins.{Shape}
use Rattle.model.specs.Definitions.Calls.{Limits}
use Rattle.model.specs.Definitions.Holdings.{Held}
use Rattle.holdings.specs.Layout.{Layout, OnlyGrows, IsLayoutOf, index_in, with_index, indexed, layout_of}
use Rattle.holdings.specs.Places.{spaces_from}
use Rattle.holdings.specs.Inner.Held.{held_at, held_of, holdings_in, index_at, is_place, layout_in, limits_in}
use Rattle.holdings.specs.Inner.Sound.{AreSound}
use Rattle.holdings.proofs.Contents.Listing.{is_one, listed_within, place_from_within, within_from_place}
use Rattle.holdings.proofs.Contents.Holders.{place_within}

-- ---- the index that a layout has for a place

module _ (f : Place → Option ℕ) where
  index_apart : (p q : Place) (o : Option ℕ) (l : Layout) → same_place p q ≡ false
      → index_in (with_index q o l) p ≡ index_in l p
  index_apart p q None l apart = refl
  index_apart p q (Some i) l apart = rw apart refl

  index_here : (p : Place) (o : Option ℕ) (l : Layout) (b : Bool) → index_in l p ≡ (if b then o else None)
      → index_in (with_index p o l) p ≡ o
  index_here p None l true is = is
  index_here p None l false is = is
  index_here p (Some i) l b is = rw (same_self p) refl

  index_indexed : (ps : List Place) (p : Place)
      → index_in (indexed f ps) p ≡ (if list_any (same_place p) ps then f p else None)
  index_indexed [] p = refl
  index_indexed (q ∷ ps) p = by (same_or_apart p q) (index_indexed ps p)
    where
      by : (p ≡ q) ⊎ (same_place p q ≡ false)
          → index_in (indexed f ps) p ≡ (if list_any (same_place p) ps then f p else None)
          → index_in (with_index q (f q) (indexed f ps)) p
          ≡ (if same_place p q || list_any (same_place p) ps then f p else None)
      by (inl same) rest =
          rw (← same, same_self p) (index_here p (f p) (indexed f ps) (list_any (same_place p) ps) rest)
      by (inr apart) rest = rw apart (index_apart p q (f q) (indexed f ps) apart ∙ rest)

-- the limits of shards, with any number of frames
abbrev limits_for : Shards → Limits
limits_for s = record { spaces = spaces_of s; bits = bits_of s; frames = 0 }

-- the index of a page of one of the spaces is that of its word
index_listed : (s : Shards) (p : Place)
    → index_in (layout_in s) p ≡ (if is_place (limits_for s) p then index_at s p else None)
unfolding layout_of
index_listed s p =
    index_indexed (index_at s) (spaces_from (pages_of (bits_of s)) 0 (spaces_of s)) p
    ∙ ap (λ b. if b then index_at s p else None) (is_one (limits_for s) p)

-- a page whose shard is there has its index
pub has_index : (s : Shards) (p : Place) → IsPlace s p → HasWord s p
    → index_in (layout_in s) p ≡ Some (index_of s p)
has_index s p place has =
    let within = place_from_within (limits_for s) p (record { space = place.space; page = place.page }) in
    index_listed s p ∙ ap (λ b. if b then index_at s p else None) within
    ∙ ap (λ b. if b then Some (index_of s p) else None) (lt-ltb (index_of s p) (word_count s) has)

-- where it is not there, it has none
pub no_index : (s : Shards) (p : Place) → (HasWord s p → ⊥) → index_in (layout_in s) p ≡ None
no_index s p away = index_listed s p ∙ by (is_place (limits_for s) p) (nat_lt (index_of s p) (word_count s)) refl
  where
    by : (a b : Bool) → nat_lt (index_of s p) (word_count s) ≡ b
        → (if a then (if b then Some (index_of s p) else None) else None) ≡ None
    by true true there = absurd (away (ltb-true (index_of s p) (word_count s) there))
    by true false there = refl
    by false b there = refl

-- what has an index is such a page
pub record IsIndexed (s : Shards) (p : Place) (i : ℕ) : Type 0 where
  pub place : IsPlace s p
  pub word : HasWord s p
  pub index : index_of s p ≡ i

pub index_has : (s : Shards) (p : Place) (i : ℕ) → index_in (layout_in s) p ≡ Some i → IsIndexed s p i
index_has s p i is =
    by (is_place (limits_for s) p) refl (nat_lt (index_of s p) (word_count s)) refl (sym (index_listed s p) ∙ is)
  where
    by : (a : Bool) → is_place (limits_for s) p ≡ a → (b : Bool) → nat_lt (index_of s p) (word_count s) ≡ b
        → (if a then (if b then Some (index_of s p) else None) else None) ≡ Some i → IsIndexed s p i
    by true place true there is =
        let within = within_from_place (limits_for s) p place in
        record {
          place = record { space = within.space; page = within.page };
          word = ltb-true (index_of s p) (word_count s) there;
          index = same_Some (index_of s p) i is;
        }
    by true place false there is = absurd (cc is)
    by false place b there is = absurd (cc is)

-- ---- what stays, and what grows

-- where no word moves and none is made, the layout stays
pub same_layout : (old new : Shards) → IsLaidOutAs old new → layout_in new ≡ layout_in old
same_layout old new is =
    λ i. layout_of (is.spaces i) (is.bits i)
    (λ p. if nat_lt (is.index p i) (is.count i) then Some (is.index p i) else None)

-- a layout that stays only grows
pub same_grows : (old new : Layout) → new ≡ old → OnlyGrows old new
same_grows old new same p i is = ap (λ (l : Layout). index_in l p) same ∙ is

-- so does that of shards of which some were made
pub made_grows : (old new : Shards) → IsMade old new → OnlyGrows (layout_in old) (layout_in new)
made_grows old new made p i is =
    let stood = index_has old p i is in
    let same : index_of new p ≡ index_of old p = made.index p stood.word in
    let word = stood.word in
    let count = made.count in
    let place : IsPlace new p = record {
      space = subst (λ n. p.space < n) (sym made.spaces) stood.place.space;
      page = subst (λ b. p.page < pages_of b) (sym made.bits) stood.place.page;
    } in
    has_index new p place (omega (arith, word, same, count)) ∙ ap (λ n. Some n) (same ∙ stood.index)

-- ---- what is held

-- the layout of sound words is one of what they hold
pub layout_of_held : (s : Shards) (trees : List Shape) → AreSound s trees
    → IsLayoutOf (holdings_in s trees) (layout_in s)
layout_of_held s trees sound = record {
  held = λ p m is.
      let listed = listed_within (held_at s trees) (limits_in s trees) p m is in
      let place = place_within (limits_in s trees) s trees sound.kept.fits p listed.0 in
      indexed_if p m place (entry_at s p) refl listed.1;
  own = λ p q i at_p at_q.
      let one = index_has s p i at_p in
      let other = index_has s q i at_q in
      words_are_their_own s p q one.place other.place one.word (one.index ∙ sym other.index);
}
  where
    indexed_if : (p : Place) (m : Held) → IsPlace s p → (o : Option Entry) → entry_at s p ≡ o
        → option_map (held_of trees p) o ≡ Some m → (i : ℕ) × (index_in (layout_in s) p ≡ Some i)
    indexed_if p m place None is held = absurd (cc held)
    indexed_if p m place (Some e) is held = (index_of s p, has_index s p place (held_have_words s p e is))
