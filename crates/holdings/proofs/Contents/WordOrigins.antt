-- The origin of each held page stands at the index of its word, since a place stands in the tree of its frame alone, and once.
use Rattle.std.proofs.Common.{◌≡◌, ℕ, ◌+◌, ◌<◌, ◌≤◌, true, false, Bool, ◌||◌, List, [], ◌∷◌, ◌++◌, length, take, get_or, Option, Some, None, IfSome, refl, sym, ap, ◌∙◌, subst, arith, ◌⊎◌, inl, inr, if◌then◌else◌, ◌==◌, slice_index, slice_set, nat_lt}
use Rattle.std.specs.Prelude.{not}
use Rattle.std.specs.List.{All, list_all}
use Rattle.std.proofs.lemmas.Bool.{and_parts, false_from_ne_true, ltb-true, ltb-false}
use Rattle.std.proofs.lemmas.Bool.Decides.{nat_tests}
use Rattle.std.proofs.lemmas.List.{take_more, length-set, get_or-set_same, get_or-set_other, get_or_past}
use Rattle.std.proofs.lemmas.List.Elements.{All-nil, All-cons}
use Rattle.std.proofs.lemmas.List.Folds.{list_any-append}
use Rattle.space.specs.declared.place.Place.{Place}
use Rattle.space.specs.declared.place.Entry.{Entry}
use Rattle.space.specs.declared.shards.Shards.{Shards}
use Rattle.space.specs.Place.{same_place}
use Rattle.space.specs.Word.{entry_of}
use Rattle.space.specs.Shards.{IsPlace, index_of, entry_at, words_of}
use Rattle.space.proofs.Places.{same_self, same_or_apart, apart_back}
use Rattle.maptree.specs.Origins.{Origins, OriginsStand, Shape, are_once, origin_in}
use Rattle.space.proofs.Lists.{take_all}
use Rattle.holdings.specs.Inner.Derivation.{stands_in}
use Rattle.holdings.specs.Inner.Held.{links_in, is_listed, has_frame, limits_in}
use Rattle.holdings.specs.Inner.OriginWords.{IsSmall}
use Rattle.holdings.specs.Inner.Sound.{AreSound}
use Rattle.holdings.specs.Inner.Words.{IsThere}
use Rattle.space.proofs.ShardWords.{held_have_words}
use Rattle.holdings.specs.Inner.WordOrigins.{AreOrigins, ArePut}
use Rattle.holdings.proofs.Contents.Holders.{place_within, links_read}
use Rattle.holdings.proofs.Contents.Listing.{within_from_place}
use Rattle.holdings.proofs.Contents.Roots.{served, pages_few}

-- ---- each link is that of its place

abbrev IsLinkIn : Origins → Place × Option Place → Type 0
IsLinkIn os o = (stands_in os o.0 ≡ true) × (origin_in os o.0 ≡ o.1)

linked_first : (o : Place × Option Place) (os : Origins) → IsLinkIn (o ∷ os) o
linked_first o os = (rw (same_self o.0) refl, rw (same_self o.0) refl)

linked_later : (o q : Place × Option Place) (os : Origins) → same_place o.0 q.0 ≡ false → IsLinkIn os q → IsLinkIn (o ∷ os) q
linked_later o q os apart link =
    let back = apart_back o.0 q.0 apart in
    (rw back link.0, rw back link.1)

apart_each : (p : Place) (os : Origins) → list_all (λ q. not (same_place p q.0)) os ≡ true → All (λ q. same_place p q.0 ≡ false) os
apart_each p [] apart = All-nil (λ q. same_place p q.0 ≡ false)
apart_each p (o ∷ os) apart =
    let parts = and_parts (not (same_place p o.0)) (list_all (λ q. not (same_place p q.0)) os) apart in
    All-cons (λ q. same_place p q.0 ≡ false) o os (false_from_ne_true (same_place p o.0) (λ is. cc (is, parts.0))) (apart_each p os parts.1)

each_link : (os : Origins) → are_once os ≡ true → All (IsLinkIn os) os
each_link [] once = All-nil (IsLinkIn [])
each_link (o ∷ os) once =
    let parts = and_parts (list_all (λ q. not (same_place o.0 q.0)) os) (are_once os) once in
    let apart = apart_each o.0 os parts.0 in
    let rest = each_link os parts.1 in
    All-cons (IsLinkIn (o ∷ os)) o os (linked_first o os) (λ k d within. linked_later o _ os (apart k d within) (rest k d within))

-- ---- origins are put, one after another

-- those of so many places were put, and others stayed
pub record ArePutUpTo (s : Shards) (os : Origins) (old : List (Option Place)) (k : ℕ) (new : List (Option Place)) : Type 0 where
  pub count : length new ≡ length old
  pub put : (p : Place) (d : Option Place) → IsPlace s p
      → get_or new (index_of s p) d ≡ (if stands_in (take k os) p then origin_in os p else get_or old (index_of s p) d)

module _ (s : Shards) (os : Origins) (once : are_once os ≡ true) (old : List (Option Place)) where
  pub none_put : ArePutUpTo s os old 0 old
  none_put = record { count = refl; put = λ p d place. refl }

  pub one_put : (k : ℕ) (o : Place × Option Place) (i : ℕ) (new : List (Option Place)) → k < length os → o ≡ get_or os k o → i ≡ index_of s o.0 → i < length old
      → ((q : Place) → IsPlace s q → index_of s q ≡ i → q ≡ o.0) → ArePutUpTo s os old k new → ArePutUpTo s os old (k + 1) (slice_set new i o.1)
  one_put k o i new within is index reached distinct so_far = record {
    count = length-set new i o.1 ∙ so_far.count;
    put = λ p d place. by p d place (same_or_apart p o.0);
  }
    where
      link : IsLinkIn os o
      link = subst (IsLinkIn os) (sym is) (each_link os once k o within)

      more : (p : Place) → stands_in (take (k + 1) os) p ≡ (stands_in (take k os) p || (same_place p o.0 || false))
      more p =
          ap (λ xs. stands_in xs p) (take_more os k o within ∙ ap (λ x. take k os ++ x ∷ []) (sym is))
          ∙ list_any-append (λ (x : Place × Option Place). same_place p x.0) (take k os) (o ∷ [])

      or_true : (a b : Bool) → b ≡ true → (a || (b || false)) ≡ true
      or_true true b is = refl
      or_true false true is = refl
      or_true false false is = is

      or_false : (a b : Bool) → b ≡ false → (a || (b || false)) ≡ a
      or_false true b is = refl
      or_false false false is = refl
      or_false false true is = is

      by : (p : Place) (d : Option Place) → IsPlace s p → (p ≡ o.0) ⊎ (same_place p o.0 ≡ false)
          → get_or (slice_set new i o.1) (index_of s p) d ≡ (if stands_in (take (k + 1) os) p then origin_in os p else get_or old (index_of s p) d)
      by p d place (inl same) =
          let there : stands_in (take (k + 1) os) p ≡ true = more p ∙ or_true (stands_in (take k os) p) (same_place p o.0) (ap (λ q. same_place q o.0) same ∙ same_self o.0) in
          let here : index_of s p ≡ i = ap (index_of s) same ∙ sym index in
          let room : i < length new = omega (arith, reached, so_far.count) in
          ap (λ n. get_or (slice_set new i o.1) n d) here ∙ get_or-set_same new i o.1 d room ∙ sym link.1 ∙ ap (origin_in os) (sym same)
          ∙ ap (λ b. if b then origin_in os p else get_or old (index_of s p) d) (sym there)
      by p d place (inr apart) =
          let same : stands_in (take (k + 1) os) p ≡ stands_in (take k os) p = more p ∙ or_false (stands_in (take k os) p) (same_place p o.0) apart in
          get_or-set_other new i (index_of s p) o.1 d (λ here. cc (apart, ap (λ q. same_place q o.0) (distinct p place here) ∙ same_self o.0))
          ∙ so_far.put p d place ∙ ap (λ b. if b then origin_in os p else get_or old (index_of s p) d) (sym same)

  pub all_put : (k : ℕ) (new : List (Option Place)) → length os ≤ k → ArePutUpTo s os old k new → ArePut s os old new
  all_put k new past so_far = record {
    count = so_far.count;
    put = subst (λ xs. (p : Place) (d : Option Place) → IsPlace s p → get_or new (index_of s p) d ≡ (if stands_in xs p then origin_in os p else get_or old (index_of s p) d)) (take_all k os past) so_far.put;
  }

-- ---- the trees, one after another

-- a word that says something is among the words in use
pub word_in_use : (s : Shards) (p : Place) (e : Entry) → entry_at s p ≡ Some e → index_of s p < length (words_of s)
word_in_use s p e stands = by (index_of s p) stands
  where
    by : (i : ℕ) → entry_of (slice_index (words_of s) i) ≡ Some e → i < length (words_of s)
    by i is = elim (within_or_past i (length (words_of s))) as (λ _. i < length (words_of s)) [
      | inl within ↦ within
      | inr past ↦ absurd (cc (is, ap entry_of (get_or_past (words_of s) i 0 past)))
    ]
      where
        within_or_past : (i n : ℕ) → (i < n) ⊎ (n ≤ i)
        within_or_past i n = cases (nat_lt i n) refl
          where
            cases : (b : Bool) → nat_lt i n ≡ b → (i < n) ⊎ (n ≤ i)
            cases true is = inl (ltb-true i n is)
            cases false is = inr (ltb-false i n is)

module _ (s : Shards) (trees : List Shape) (sound : AreSound s trees) where
  -- what stands in the tree of a frame holds that frame
  pub frame_of : (frame : ℕ) (p : Place) → is_listed trees frame p ≡ true → (e : Entry) × (entry_at s p ≡ Some e) × (e.frame ≡ frame)
  frame_of frame p listed = by (entry_at s p) refl (sound.pruned.held frame p listed)
    where
      by : (o : Option Entry) → entry_at s p ≡ o → has_frame frame o ≡ true → (e : Entry) × (entry_at s p ≡ Some e) × (e.frame ≡ frame)
      by None is none = absurd (cc none)
      by (Some e) is same = (e, is, equal e.frame frame same)
        where
          equal : (a b : ℕ) → (a == b) ≡ true → a ≡ b
          equal a b same = grind (arith, nat_tests)

  pub no_trees : (origins : List (Option Place)) → length origins ≡ length (words_of s) → AreOrigins s trees 0 origins
  no_trees origins count = record { count = count; stand = λ p e d place stands low. absurd (omega (arith, low)) }

  module _ (frame : ℕ) (t : Shape) (within : frame < length trees) (is : t ≡ get_or trees frame t) where
    listed_there : (p : Place) → stands_in t.links p ≡ true → is_listed trees frame p ≡ true
    listed_there p there = ap (λ os. stands_in os p) (links_read trees frame t within is) ∙ there

    -- an origin stands in the tree too
    pub origin_small : (o : Option Place) → ((q : Place) → o ≡ Some q → stands_in t.links q ≡ true) → IfSome o IsSmall
    origin_small None there = tt
    origin_small (Some q) there =
        let limits = limits_in s trees in
        let within = within_from_place limits q (sound.pruned.within frame q (listed_there q (there q refl))) in
        record { space = omega (arith, within.space, (served limits sound.kept.fits.served).few); page = omega (arith, within.page, pages_few limits sound.kept.fits.served) }

    module _ (once : are_once t.links ≡ true) where
      pub origins_small : OriginsStand t.links → All (λ o. IfSome o.1 IsSmall) t.links
      origins_small stand k d small =
          let o = get_or t.links k d in
          let link = each_link t.links once k d small in
          origin_small o.1 (λ q is. stand o.0 q (link.1 ∙ is))

      pub places_there : All (λ o. IsThere s o.0) t.links
      places_there k d small =
          let p = (get_or t.links k d).0 in
          let found = frame_of frame p (listed_there p (each_link t.links once k d small).0) in
          record { word = held_have_words s p found.0 found.1; place = place_within (limits_in s trees) s trees sound.kept.fits p (within_from_place (limits_in s trees) p (sound.pruned.within frame p (listed_there p (each_link t.links once k d small).0))) }

      pub words_there : (n : ℕ) → n ≡ length (words_of s) → All (λ o. index_of s o.0 < n) t.links
      words_there n is_n k d small =
          let p = (get_or t.links k d).0 in
          let found = frame_of frame p (listed_there p (each_link t.links once k d small).0) in
          let reached = word_in_use s p found.0 found.1 in
          omega (arith, reached, is_n)

    pub one_tree : (old new : List (Option Place)) → AreOrigins s trees frame old → ArePut s t.links old new → AreOrigins s trees (frame + 1) new
    one_tree old new so_far put = record { count = put.count ∙ so_far.count; stand = stand }
      where
        os_is : links_in trees frame ≡ t.links
        os_is = links_read trees frame t within is

        cases : (a b : ℕ) → a < b + 1 → (a ≡ b) ⊎ (a < b)
        cases a b low = by (a == b) refl
          where
            by : (x : Bool) → (a == b) ≡ x → (a ≡ b) ⊎ (a < b)
            by true same = inl (grind (arith, nat_tests))
            by false other = inr (grind (arith, nat_tests))

        stand : (p : Place) (e : Entry) (d : Option Place) → IsPlace s p → entry_at s p ≡ Some e → e.frame < frame + 1 → get_or new (index_of s p) d ≡ origin_in (links_in trees e.frame) p
        stand p e d place stands low = by (cases e.frame frame low)
          where
            by : (e.frame ≡ frame) ⊎ (e.frame < frame) → get_or new (index_of s p) d ≡ origin_in (links_in trees e.frame) p
            by (inl same) =
                let listed = sound.kept.fits.listed p e (record { space = place.space; page = place.page }) stands in
                let there : stands_in t.links p ≡ true = ap (λ os. stands_in os p) (sym (ap (links_in trees) same ∙ os_is)) ∙ listed in
                put.put p d place ∙ ap (λ b. if b then origin_in t.links p else get_or old (index_of s p) d) there ∙ ap (λ os. origin_in os p) (sym (ap (links_in trees) same ∙ os_is))
            by (inr before) =
                let not_there : stands_in t.links p ≡ false = false_from_ne_true (stands_in t.links p) (λ there.
                let found = frame_of frame p (listed_there p there) in
                let one : e.frame ≡ frame = cc (stands, found.1, found.2) in
                omega (arith, before, one)) in
                put.put p d place ∙ ap (λ b. if b then origin_in t.links p else get_or old (index_of s p) d) not_there ∙ so_far.stand p e d place stands before
