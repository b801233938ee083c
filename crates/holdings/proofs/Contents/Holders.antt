-- What is held where, from words and trees.
use Rattle.std.proofs.Common.{◌≡◌, ℕ, ◌<◌, true, false, List, [], length, get_or, Option, Some, None, Ok, Err, refl, sym, ap, ◌∙◌, subst, arith}
use Rattle.std.specs.Prelude.{Result, OnOk, OnErr}
use Rattle.std.specs.Result.{is_err}
use Rattle.std.specs.Option.{option_map, option_map_or, option_and_then}
use Rattle.std.proofs.lemmas.Option.{slice_get_read}
use Rattle.space.specs.declared.place.Place.{Place}
use Rattle.space.specs.declared.place.Entry.{Entry}
use Rattle.space.specs.declared.shards.Shards.{Shards}
use Rattle.space.specs.Place.{same_place}
use Rattle.space.specs.Directory.{pages_of}
use Rattle.space.specs.Shards.{IsPlace, entry_at, IsSetAt}
use Rattle.space.proofs.Places.{same_self}
use Rattle.maptree.specs.Origins.{Shape, origin_in}
use Rattle.model.specs.Definitions.Holdings.{at, origin_at}
use Rattle.model.specs.Definitions.Calls.{Limits}
use Rattle.holdings.specs.Places.{IsWithin}
use Rattle.holdings.specs.Inner.Held.{links_in, held_of, held_at, holdings_of}
use Rattle.holdings.specs.Contents.{entry_of}
use Rattle.holdings.specs.Inner.Sound.{IsFitting}
use Rattle.holdings.proofs.Contents.Listing.{at_within, listing_same}

-- ---- limits and places

-- a place within the limits has a word
pub place_within : (limits : Limits) (shards : Shards) (trees : List Shape) → IsFitting limits shards trees → (p : Place) → IsWithin limits p → IsPlace shards p
place_within limits shards trees fits p within = record {
  space = omega (arith, within.space, fits.spaces);
  page = subst (λ b. p.page < pages_of b) (sym fits.bits) within.page;
}

-- the tree that is read
pub links_read : (trees : List Shape) (frame : ℕ) (t : Shape) → frame < length trees → t ≡ get_or trees frame t → links_in trees frame ≡ t.links
links_read trees frame t within is = ap (λ o. option_map_or (λ (t : Shape). t.links) o []) (slice_get_read trees (length trees) frame t refl within is)

-- ---- what is held at a place within the limits

module _ (limits : Limits) (shards : Shards) (trees : List Shape) (p : Place) (within : IsWithin limits p) where
  -- its word and the tree of its frame say what is held there
  pub held_within : at (holdings_of limits shards trees) p ≡ held_at shards trees p
  held_within = at_within (held_at shards trees) limits p within

  -- frame, rights and status are those of its word
  pub entry_within : option_map entry_of (at (holdings_of limits shards trees) p) ≡ entry_at shards p
  entry_within = ap (option_map entry_of) held_within ∙ by (entry_at shards p)
    where
      by : (o : Option Entry) → option_map entry_of (option_map (held_of trees p) o) ≡ o
      by None = refl
      by (Some e) = refl

  -- the origin is that of the tree
  pub origin_within : (e : Entry) → entry_at shards p ≡ Some e → origin_at (holdings_of limits shards trees) p ≡ origin_in (links_in trees e.frame) p
  origin_within e is = ap (option_and_then (λ m. m.origin)) held_within ∙ ap (λ o. option_and_then (λ m. m.origin) (option_map (held_of trees p) o)) is

  pub absent_within : entry_at shards p ≡ None → at (holdings_of limits shards trees) p ≡ None
  absent_within is = held_within ∙ ap (option_map (held_of trees p)) is

  pub present_within : (e : Entry) → entry_at shards p ≡ Some e → at (holdings_of limits shards trees) p ≡ Some (held_of trees p e)
  present_within e is = held_within ∙ ap (option_map (held_of trees p)) is

-- ---- trees are changed

-- where each held place keeps its origin, the same is held
pub same_origins : (limits : Limits) (shards : Shards) (old new : List Shape)
    → ((p : Place) (e : Entry) → IsWithin limits p → entry_at shards p ≡ Some e → origin_in (links_in new e.frame) p ≡ origin_in (links_in old e.frame) p)
    → holdings_of limits shards new ≡ holdings_of limits shards old
same_origins limits shards old new same = listing_same limits (held_at shards new) (held_at shards old) (λ p within. by p (entry_at shards p) (same p) within)
  where
    by : (p : Place) (o : Option Entry) → ((e : Entry) → IsWithin limits p → o ≡ Some e → origin_in (links_in new e.frame) p ≡ origin_in (links_in old e.frame) p)
        → IsWithin limits p → option_map (held_of new p) o ≡ option_map (held_of old p) o
    by p None same within = refl
    by p (Some e) same within = ap (λ o. Some (record { frame = e.frame; rights = e.rights; status = e.status; origin = o })) (same e within refl)

-- ---- one word is changed

module _ (old new : Shards) (trees : List Shape) (q : Place) (entry : Option Entry) (set : IsSetAt old new q entry) where
  -- there the new word says what is held
  pub held_there : held_at new trees q ≡ option_map (held_of trees q) entry
  held_there = ap (option_map (held_of trees q)) set.there

  -- elsewhere stands what stood
  pub entry_elsewhere : (p : Place) → IsPlace old p → same_place p q ≡ false → entry_at new p ≡ entry_at old p
  entry_elsewhere p place apart = set.elsewhere p place (λ same. cc (apart, ap (λ x. same_place x q) same, same_self q))

  -- and is held what was held
  pub held_elsewhere : (p : Place) → IsPlace old p → same_place p q ≡ false → held_at new trees p ≡ held_at old trees p
  held_elsewhere p place apart = ap (option_map (held_of trees p)) (entry_elsewhere p place apart)

-- ---- answers

-- what holds on success, where there was no error, and on an error
pub from_ok : {T E : Type 0} (r : Result T E) (P : Type 0) → is_err r ≡ false → OnOk r P → P
from_ok (Ok x) P none p = p
from_ok (Err e) P none p = absurd (cc none)

pub from_err : {T E : Type 0} (r : Result T E) (P : Type 0) → is_err r ≡ true → OnErr r P → P
from_err (Ok x) P some p = absurd (cc some)
from_err (Err e) P some p = p
