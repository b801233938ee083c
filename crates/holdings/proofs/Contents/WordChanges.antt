-- One word is changed, and keeps its frame or becomes 0: what words and trees keep, stays.
use Rattle.std.proofs.Common.{◌≡◌, ℕ, ◌<◌, arith, true, false, List, Option, Some, None, refl, sym, ap, ◌∙◌, subst, ◌⊎◌, inl, inr}
use Rattle.std.specs.Prelude.{IsFalse, is_some}
use Rattle.std.proofs.lemmas.Bool.{eqb-true, eq-eqb}
use Rattle.std.proofs.lemmas.Option.{same_Some}
use Rattle.space.specs.declared.place.Place.{Place}
use Rattle.space.specs.declared.place.Entry.{Entry}
use Rattle.space.specs.declared.shards.Shards.{Shards}
use Rattle.space.specs.Place.{same_place}
use Rattle.space.specs.Directory.{pages_of}
use Rattle.space.specs.Shards.{entry_at, index_of, word_count, is_taken, HasWord, IsSetAt, IsLaidOutAs, IsPlace}
use Rattle.space.proofs.Leaves.{within_or_past}
use Rattle.space.proofs.ShardWords.{absent_unless, held_have_words}
use Rattle.holdings.specs.Inner.Words.{IsThere}
use Rattle.space.proofs.Places.{same_or_apart}
use Rattle.maptree.specs.Origins.{Shape}
use Rattle.model.specs.Definitions.Calls.{Limits}
use Rattle.model.specs.Definitions.Lawful.{is_lawful}
use Rattle.holdings.specs.Places.{IsWithin}
use Rattle.holdings.specs.Inner.Held.{has_entry, is_listed, has_frame, holdings_of}
use Rattle.holdings.specs.Inner.Sound.{IsFitting, IsSound}
use Rattle.holdings.proofs.Contents.Listing.{within_from_place}
use Rattle.holdings.proofs.Contents.Holders.{place_within, entry_elsewhere}

-- a word that was set
pub record IsWordSet (old new : Shards) (q : Place) (entry : Option Entry) : Type 0 where
  pub set : IsSetAt old new q entry
  pub present : IsFalse (is_taken new)
  pub layout : IsLaidOutAs old new

-- the new entry, if there is one, has the frame of the old one
abbrev pub KeepsFrame : Option Entry → Option Entry → Type 0
KeepsFrame before after = (e : Entry) → after ≡ Some e → has_frame e.frame before ≡ true

pub frame_from : (f : ℕ) (o : Option Entry) → has_frame f o ≡ true → (e : Entry) × (o ≡ Some e) × (e.frame ≡ f)
frame_from f None has = absurd (cc has)
frame_from f (Some e) has = (e, refl, eqb-true e.frame f has)

-- where words were laid out in one way, a place that had one has one
pub place_kept : (old new : Shards) → IsLaidOutAs old new → (p : Place) → IsPlace old p → IsPlace new p
place_kept old new layout p place = record { space = subst (λ n. p.space < n) (sym layout.spaces) place.space; page = subst (λ b. p.page < pages_of b) (sym layout.bits) place.page }

-- and its shard stays
pub word_kept : (old new : Shards) → IsLaidOutAs old new → (p : Place) → HasWord old p → HasWord new p
word_kept old new layout p has = omega (arith, layout.index p, layout.count, has)

-- what is held has a word
pub there_if_held : (s : Shards) (p : Place) → IsPlace s p → has_entry s p ≡ true → IsThere s p
there_if_held s p place held = record { place = place; word = by (entry_at s p) refl held }
  where
    by : (o : Option Entry) → entry_at s p ≡ o → is_some o ≡ true → HasWord s p
    by None is held = absurd (cc held)
    by (Some e) is held = held_have_words s p e is

-- what changes only at places whose shards are there changes nowhere else
pub same_by_word : (old new : Shards) → IsLaidOutAs old new → (q : Place) → (HasWord old q → entry_at new q ≡ entry_at old q) → entry_at new q ≡ entry_at old q
same_by_word old new layout q same = elim (within_or_past (index_of old q) (word_count old)) as (λ _. entry_at new q ≡ entry_at old q) [
  | inl has ↦ same has
  | inr past ↦
      absent_unless new q (λ has. absurd (omega (arith, layout.index q, layout.count, has, past)))
      ∙ sym (absent_unless old q (λ has. absurd (omega (arith, has, past))))
]

module _ (limits : Limits) (old new : Shards) (trees : List Shape) (q : Place) (entry : Option Entry) (w : IsWordSet old new q entry) where
  module _ (fits : IsFitting limits old trees) where
    -- what stands at a place has the frame that stood there
    frame_stood : KeepsFrame (entry_at old q) entry → (p : Place) (e : Entry) → IsWithin limits p → entry_at new p ≡ Some e → has_frame e.frame (entry_at old p) ≡ true
    frame_stood keeps p e within is = by (same_or_apart p q)
      where
        by : (p ≡ q) ⊎ (same_place p q ≡ false) → has_frame e.frame (entry_at old p) ≡ true
        by (inl same) = subst (λ x. has_frame e.frame (entry_at old x) ≡ true) (sym same) (keeps e (sym w.set.there ∙ ap (entry_at new) (sym same) ∙ is))
        by (inr apart) =
            let stood : entry_at old p ≡ Some e = sym (entry_elsewhere old new trees q entry w.set p (place_within limits old trees fits p within) apart) ∙ is in
            ap (has_frame e.frame) stood ∙ eq-eqb e.frame e.frame refl

    -- words and trees fit
    pub fits_set : KeepsFrame (entry_at old q) entry → IsFitting limits new trees
    fits_set keeps = record {
      served = fits.served;
      spaces = w.layout.spaces ∙ fits.spaces;
      bits = w.layout.bits ∙ fits.bits;
      present = w.present;
      some = omega (arith, fits.some, w.layout.count);
      count = fits.count;
      frame = λ p e within is.
          let stood = frame_from e.frame (entry_at old p) (frame_stood keeps p e within is) in
          subst (λ f. f < limits.frames) stood.2 (fits.frame p stood.0 within stood.1);
      listed = λ p e within is.
          let stood = frame_from e.frame (entry_at old p) (frame_stood keeps p e within is) in
          subst (λ f. is_listed trees f p ≡ true) stood.2 (fits.listed p stood.0 within stood.1);
    }

  -- where an entry stays, and what is held is lawful again, they are sound
  pub sound_set : (e : Entry) → entry ≡ Some e → has_frame e.frame (entry_at old q) ≡ true → IsSound limits old trees → is_lawful (holdings_of limits new trees) ≡ true → IsSound limits new trees
  sound_set e is stood sound lawful = record {
    kept = record {
      fits = fits_set sound.kept.fits (λ k k_is. subst (λ f. has_frame f (entry_at old q) ≡ true) (ap (λ x. x.frame) (same_Some e k (sym is ∙ k_is))) stood);
      lawful = lawful;
    };
    pruned = record {
      within = sound.pruned.within;
      held = λ frame p listed. still frame p (within_from_place limits p (sound.pruned.within frame p listed)) (sound.pruned.held frame p listed) (same_or_apart p q);
    };
  }
    where
      still : (frame : ℕ) (p : Place) → IsWithin limits p → has_frame frame (entry_at old p) ≡ true → (p ≡ q) ⊎ (same_place p q ≡ false) → has_frame frame (entry_at new p) ≡ true
      still frame p within has (inl same) =
          let one = frame_from frame (entry_at old q) (subst (λ x. has_frame frame (entry_at old x) ≡ true) same has) in
          let other = frame_from e.frame (entry_at old q) stood in
          let equal : one.0 ≡ other.0 = same_Some one.0 other.0 (sym one.1 ∙ other.1) in
          let frames : e.frame ≡ frame = sym other.2 ∙ ap (λ x. x.frame) (sym equal) ∙ one.2 in
          rw same (ap (has_frame frame) (w.set.there ∙ is) ∙ eq-eqb e.frame frame frames)
      still frame p within has (inr apart) =
          ap (has_frame frame) (entry_elsewhere old new trees q entry w.set p (place_within limits old trees sound.kept.fits p within) apart) ∙ has
