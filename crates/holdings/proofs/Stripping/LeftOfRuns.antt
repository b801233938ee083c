-- What is left of the places of a run, as a walk over it sees.
use Rattle.std.proofs.Common.{◌≡◌, ℕ, ◌+◌, ◌-◌, ◌<◌, ◌≤◌, true, false, Bool, ◌&&◌, not, List, length, Option, Some, None, refl, sym, ap, ◌∙◌, arith, ◌⊎◌, inl, inr, below_more, ◌==◌, if◌then◌else◌}
use Rattle.std.specs.Option.{option_map, is_some}
use Rattle.std.specs.declared.ops.Range.{Range}
use Rattle.std.proofs.lemmas.Bool.{and_parts, eqb-true}
use Rattle.fpage.specs.declared.rights.Rights.{Rights}
use Rattle.space.specs.declared.place.Place.{Place}
use Rattle.space.specs.declared.place.Entry.{Entry}
use Rattle.space.specs.declared.shards.Shards.{Shards}
use Rattle.space.specs.Entries.{with_status}
use Rattle.space.specs.Place.{same_place}
use Rattle.space.specs.Shards.{IsPlace, IsSetAt, IsLaidOutAs, entry_at}
use Rattle.space.proofs.Places.{same_self, same_or_apart}
use Rattle.maptree.specs.Origins.{Origins, Shape, place_at}
use Rattle.holdings.specs.declared.prune.Left.{Left}
use Rattle.holdings.specs.Inner.Held.{links_in, has_entry}
use Rattle.holdings.specs.Inner.Stripping.{IsLeft, with_next}
use Rattle.holdings.specs.Inner.Sound.{AreLoose}
use Rattle.holdings.proofs.Contents.WordChanges.{place_kept}
use Rattle.holdings.proofs.Stripping.Walks.{place_any, listed_place}
use Rattle.holdings.proofs.Stripping.Frames.{all_slice}

-- the places from a position up to another have an entry in front, and where it is said none behind
pub record IsSeen (left : Left) (shards : Shards) (os : Origins) (start i : ℕ) : Type 0 where
  pub from : start ≤ left.held_to
  pub upto : left.held_to ≤ i
  pub held : (j : ℕ) → j < left.held_to → (d : Place) → start ≤ j → has_entry shards (place_at os j d) ≡ true
  pub gone : left.rest_gone ≡ true → (j : ℕ) → j < i → (d : Place) → left.held_to ≤ j → not (has_entry shards (place_at os j d)) ≡ true

-- the places of a tree have words
pub places_now : (old : Shards) (trees : List Shape) (frame : ℕ) → AreLoose old trees → (now : Shards) → IsLaidOutAs old now → (j : ℕ) (d : Place) → j < length (links_in trees frame) → IsPlace now (place_at (links_in trees frame) j d)
places_now old trees frame loose now layout j d within =
    let links = links_in trees frame in
    place_kept old now layout (place_at links j d) (listed_place old trees frame loose j (place_at links j d) within (λ e. place_any links j e d within))

-- one place more was set, and it was seen whether it has an entry
module _ (os : Origins) (start i : ℕ) (now next : Shards) (q : Place) (entry : Option Entry) (set : IsSetAt now next q entry)
    (places : (j : ℕ) (d : Place) → j < length os → IsPlace now (place_at os j d)) (within : i < length os)
    (at : (d : Place) → place_at os i d ≡ q) (only_there : (j : ℕ) (d : Place) → j < length os → place_at os j d ≡ q → j ≡ i) where
  -- those before it are as they were
  as_before : (j : ℕ) → j < i → (d : Place) → has_entry next (place_at os j d) ≡ has_entry now (place_at os j d)
  as_before j less d =
      let inside : j < length os = omega (arith, less, within) in
      ap is_some (set.elsewhere (place_at os j d) (places j d inside) (λ same. omega (arith, less, only_there j d inside same)))

  pub seen_more : (left : Left) (held : Bool) → held ≡ has_entry next q → IsSeen left now os start i → IsSeen (with_next left i held) next os start (i + 1)
  seen_more left held held_is so_far = by (left.held_to == i) held refl held_is
    where
      here : (b : Bool) → b ≡ has_entry next q → (d : Place) → has_entry next (place_at os i d) ≡ b
      here b is d = ap (has_entry next) (at d) ∙ sym is

      behind : (held : Bool) → held ≡ has_entry next q → IsSeen (record { held_to = left.held_to; rest_gone = left.rest_gone && not held }) next os start (i + 1)
      behind held is = record {
        from = so_far.from;
        upto = let upto = so_far.upto in omega (arith, upto);
        held = λ j less d least. as_before j (let upto = so_far.upto in omega (arith, upto, less)) d ∙ so_far.held j less d least;
        gone = λ said. let parts = and_parts left.rest_gone (not held) said in
            below_more (λ j. (d : Place) → left.held_to ≤ j → not (has_entry next (place_at os j d)) ≡ true) i
            (λ j less d least. ap not (as_before j less d) ∙ so_far.gone parts.0 j less d least)
            (λ d least. ap not (here held is d) ∙ parts.1);
      }

      front : left.held_to ≡ i → true ≡ has_entry next q → IsSeen (record { held_to = i + 1; rest_gone = left.rest_gone }) next os start (i + 1)
      front all is = record {
        from = let from = so_far.from in omega (arith, from, all);
        upto = omega arith;
        held = below_more (λ j. (d : Place) → start ≤ j → has_entry next (place_at os j d) ≡ true) i
            (λ j less d least. as_before j less d ∙ so_far.held j (omega (arith, less, all)) d least)
            (λ d least. here true is d);
        gone = λ said j less d least. absurd (omega (arith, less, least));
      }

      by : (b held : Bool) → (left.held_to == i) ≡ b → held ≡ has_entry next q
          → IsSeen (if b && held then record { held_to = i + 1; rest_gone = left.rest_gone } else record { held_to = left.held_to; rest_gone = left.rest_gone && not held }) next os start (i + 1)
      by false held same is = behind held is
      by true false same is = behind false is
      by true true same is = front (eqb-true left.held_to i same) is

-- more status at a place keeps whether any place has an entry
module _ (now next : Shards) (o : Place) (status : Rights) (set : IsSetAt now next o (option_map (with_status status) (entry_at now o))) where
  gains_keep : (p : Place) → IsPlace now p → has_entry next p ≡ has_entry now p
  gains_keep p place = by (same_or_apart p o)
    where
      some : (k : Option Entry) → is_some (option_map (with_status status) k) ≡ is_some k
      some None = refl
      some (Some e) = refl

      by : (p ≡ o) ⊎ (same_place p o ≡ false) → has_entry next p ≡ has_entry now p
      by (inl same) = ap (has_entry next) same ∙ ap is_some set.there ∙ some (entry_at now o) ∙ ap (has_entry now) (sym same)
      by (inr apart) = ap is_some (set.elsewhere p place (λ same. cc (apart, ap (λ x. same_place x o) same, same_self o)))

  pub seen_kept : (left : Left) (os : Origins) (start end : ℕ) → ((j : ℕ) (d : Place) → j < length os → IsPlace now (place_at os j d)) → end ≤ length os
      → IsSeen left now os start end → IsSeen left next os start end
  seen_kept left os start end places within seen = record {
    from = seen.from;
    upto = seen.upto;
    held = λ j less d least. let upto = seen.upto in gains_keep (place_at os j d) (places j d (omega (arith, less, upto, within))) ∙ seen.held j less d least;
    gone = λ is j less d least. ap not (gains_keep (place_at os j d) (places j d (omega (arith, less, within)))) ∙ seen.gone is j less d least;
  }

-- at the end of the run
pub run_left : (shards : Shards) (os : Origins) (run : Range ℕ) (left : Left) → IsSeen left shards os run.start run.end → IsLeft shards os run left
run_left shards os run left seen = record {
  from = seen.from;
  upto = seen.upto;
  held = all_slice (has_entry shards) os run.start (left.held_to - run.start) (λ j d least less _. seen.held j (let from = seen.from in omega (arith, least, less, from)) d least);
  gone = λ is. all_slice (λ p. not (has_entry shards p)) os left.held_to (run.end - left.held_to) (λ j d least less _. seen.gone is j (let upto = seen.upto in omega (arith, least, less, upto)) d least);
}

-- of no places, and of those of which nothing is known
pub none_seen : (shards : Shards) (os : Origins) (start : ℕ) → IsSeen (record { held_to = start; rest_gone = true }) shards os start start
none_seen shards os start = record {
  from = omega arith;
  upto = omega arith;
  held = λ j less d least. absurd (omega (arith, less, least));
  gone = λ _ j less d least. absurd (omega (arith, less, least));
}
