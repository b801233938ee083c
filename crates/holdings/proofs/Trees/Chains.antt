-- The chains of origins of what is held are those of the trees; so what derives from a place stands in its run.
use Rattle.std.proofs.Common.{◌≡◌, ℕ, zero, suc, ◌+◌, ◌-◌, ◌<◌, ◌≤◌, true, false, Bool, ◌&&◌, ◌||◌, nat_le, nat_lt, List, [], ◌∷◌, length, drop, take, Option, Some, None, refl, sym, ap, ◌∙◌, subst, arith, ◌⊎◌, inl, inr}
use Rattle.std.specs.Prelude.{Decides}
use Rattle.std.specs.List.{list_any, slice_range}
use Rattle.std.specs.Option.{option_and_then, option_map}
use Rattle.std.specs.declared.ops.Range.{Range}
use Rattle.std.proofs.lemmas.Bool.{and_parts, le-leb, lt-ltb, leb-true, ltb-true}
use Rattle.std.proofs.lemmas.List.{length-drop}
use Rattle.space.specs.declared.place.Place.{Place}
use Rattle.space.specs.declared.place.Entry.{Entry}
use Rattle.space.specs.declared.shards.Shards.{Shards}
use Rattle.space.specs.Place.{same_place}
use Rattle.space.specs.Shards.{entry_at}
use Rattle.space.proofs.Places.{same_is, same_self, same_or_apart}
use Rattle.maptree.specs.Origins as tree
use Rattle.maptree.specs.Origins.{Origins, Shape, origin_in, place_at, LeadsTo, IsRun}
use Rattle.maptree.proofs.Listed.{listed_at}
use Rattle.model.specs.Definitions.Holdings.{Held, only, at, origin_at}
use Rattle.model.specs.Definitions.Derived.{is_below}
use Rattle.model.specs.Laws.DerivationLaws.{after_origins, LeadsInto}
use Rattle.model.proofs.LawfulParts.{IsLawful, lawful_parts}
use Rattle.model.proofs.Chains.{held_with_origin}
use Rattle.model.proofs.Derivations.{below_is_a_chain}
use Rattle.holdings.specs.Places.{IsWithin}
use Rattle.holdings.specs.Inner.Held.{is_listed, links_in, held_of, held_at, limits_in, holdings_in}
use Rattle.holdings.specs.Inner.Sound.{AreLoose}
use Rattle.holdings.proofs.Contents.Listing.{listed_within}
use Rattle.holdings.proofs.Contents.Holders.{present_within, origin_within}

-- tests that decide facts of which each gives the other are one
pub same_decision : {P Q : Type 0} (a b : Bool) → Decides a P → Decides b Q → (P → Q) → (Q → P) → a ≡ b
same_decision true true p q there back = refl
same_decision true false p q there back = sym (q.1 (there (p.0 refl)))
same_decision false true p q there back = p.1 (back (q.0 refl))
same_decision false false p q there back = refl

-- ---- positions

-- a listed place stands somewhere
pub stands : (os : Origins) (p d : Place) → list_any (λ o. same_place p o.0) os ≡ true → (j : ℕ) × (j < length os) × (place_at os j d ≡ p)
stands [] p d listed = absurd (cc listed)
stands (o ∷ os) p d listed = by (same_or_apart p o.0) (stands os p d)
  where
    by : (p ≡ o.0) ⊎ (same_place p o.0 ≡ false) → (list_any (λ o. same_place p o.0) os ≡ true → (j : ℕ) × (j < length os) × (place_at os j d ≡ p)) → (j : ℕ) × (j < length (o ∷ os)) × (place_at (o ∷ os) j d ≡ p)
    by (inl same) rest = (0, omega arith, sym same)
    by (inr apart) rest = let later = rest (rw apart at listed) in (suc later.0, omega (arith, later.1), later.2)

-- the places at the positions of a range
abbrev pub is_among : Origins → ℕ → ℕ → Place → Bool
is_among os a b p = list_any (λ o. same_place p o.0) (slice_range os a b)

pub place_at_drop : (a : ℕ) (os : Origins) (i : ℕ) (d : Place) → place_at (drop a os) i d ≡ place_at os (a + i) d
place_at_drop zero os i d = let same : i ≡ 0 + i = omega arith in ap (λ j. place_at os j d) same
place_at_drop (suc a) [] i d = refl
place_at_drop (suc a) (o ∷ os) i d = let more : suc a + i ≡ suc (a + i) = omega arith in place_at_drop a os i d ∙ ap (λ j. place_at (o ∷ os) j d) (sym more)

taken : (m : ℕ) (os : Origins) (p d : Place) → list_any (λ o. same_place p o.0) (take m os) ≡ true → (i : ℕ) × (i < m) × (i < length os) × (place_at os i d ≡ p)
taken zero os p d k = absurd (cc k)
taken (suc m) [] p d k = absurd (cc k)
taken (suc m) (o ∷ os) p d k = by (same_or_apart p o.0) (taken m os p d)
  where
    by : (p ≡ o.0) ⊎ (same_place p o.0 ≡ false) → (list_any (λ o. same_place p o.0) (take m os) ≡ true → (i : ℕ) × (i < m) × (i < length os) × (place_at os i d ≡ p)) → (i : ℕ) × (i < suc m) × (i < length (o ∷ os)) × (place_at (o ∷ os) i d ≡ p)
    by (inl same) rest = (0, omega arith, omega arith, sym same)
    by (inr apart) rest = let later = rest (rw apart at k) in (suc later.0, omega (arith, later.1), omega (arith, later.2), later.3)

has_taken : (m : ℕ) (os : Origins) (i : ℕ) (d : Place) → i < m → i < length os → list_any (λ o. same_place (place_at os i d) o.0) (take m os) ≡ true
has_taken zero os i d less within = absurd (omega (arith, less))
has_taken (suc m) [] i d less within = absurd (omega (arith, within))
has_taken (suc m) (o ∷ os) zero d less within = rw (same_self o.0) refl
has_taken (suc m) (o ∷ os) (suc i) d less within = rw (has_taken m os i d (omega (arith, less)) (omega (arith, within))) (elim (same_place (place_at os i d) o.0) as (λ b. (b || true) ≡ true) [ true ↦ refl | false ↦ refl ])

pub among_at : (os : Origins) (a b : ℕ) (p d : Place) → is_among os a b p ≡ true → (j : ℕ) × (a ≤ j) × (j < b) × (j < length os) × (place_at os j d ≡ p)
among_at os a b p d k =
    let there = taken (b - a) (drop a os) p d k in
    let size = length-drop a os in
    (a + there.0, omega arith, omega (arith, there.1), omega (arith, there.2, size), sym (place_at_drop a os there.0 d) ∙ there.3)

pub at_among : (os : Origins) (a b j : ℕ) (d : Place) → a ≤ j → j < b → j < length os → is_among os a b (place_at os j d) ≡ true
at_among os a b j d least less within =
    let size = length-drop a os in
    let whole : a + (j - a) ≡ j = omega (arith, least) in
    subst (λ p. is_among os a b p ≡ true) (place_at_drop a os (j - a) d ∙ ap (λ i. place_at os i d) whole) (has_taken (b - a) (drop a os) (j - a) d (omega (arith, least, less)) (omega (arith, size, least, within)))

-- ---- chains

module _ (shards : Shards) (trees : List Shape) (loose : AreLoose shards trees) where
  lawful : IsLawful (holdings_in shards trees)
  lawful = lawful_parts (holdings_in shards trees) loose.lawful

  -- what is held has an entry
  pub entry_held : (p : Place) (m : Held) → at (holdings_in shards trees) p ≡ Some m → IsWithin (limits_in shards trees) p × ((e : Entry) × (entry_at shards p ≡ Some e) × (m ≡ held_of trees p e))
  entry_held p m held = let there = listed_within (held_at shards trees) (limits_in shards trees) p m held in (there.0, by (entry_at shards p) refl there.1)
    where
      by : (o : Option Entry) → entry_at shards p ≡ o → option_map (held_of trees p) o ≡ Some m → (e : Entry) × (entry_at shards p ≡ Some e) × (m ≡ held_of trees p e)
      by None is none = absurd (cc none)
      by (Some e) is same = (e, is, cc same)

  -- so many origins lead to the same place, and the frame stays
  pub chains_agree : (n : ℕ) (p : Place) (e : Entry) → IsWithin (limits_in shards trees) p → entry_at shards p ≡ Some e
      → (after_origins n (holdings_in shards trees) p ≡ tree.after_origins n (links_in trees e.frame) p)
      × ((q : Place) → after_origins n (holdings_in shards trees) p ≡ Some q → (k : Entry) × (entry_at shards q ≡ Some k) × (k.frame ≡ e.frame))
  chains_agree zero p e within is = (refl, λ q leads. (e, ap (entry_at shards) (sym (same_places p q leads)) ∙ is, refl))
    where
      same_places : (p q : Place) → Some p ≡ Some q → p ≡ q
      same_places p q same = cc same
  chains_agree (suc n) p e within is = by (origin_at (holdings_in shards trees) p) refl (chains_agree n)
    where
      by : (o : Option Place) → origin_at (holdings_in shards trees) p ≡ o
          → ((q : Place) (k : Entry) → IsWithin (limits_in shards trees) q → entry_at shards q ≡ Some k
          → (after_origins n (holdings_in shards trees) q ≡ tree.after_origins n (links_in trees k.frame) q)
          × ((r : Place) → after_origins n (holdings_in shards trees) q ≡ Some r → (j : Entry) × (entry_at shards r ≡ Some j) × (j.frame ≡ k.frame)))
          → (after_origins (suc n) (holdings_in shards trees) p ≡ tree.after_origins (suc n) (links_in trees e.frame) p)
          × ((q : Place) → after_origins (suc n) (holdings_in shards trees) p ≡ Some q → (k : Entry) × (entry_at shards q ≡ Some k) × (k.frame ≡ e.frame))
      by None none rest =
          let in_tree : origin_in (links_in trees e.frame) p ≡ None = sym (origin_within (limits_in shards trees) shards trees p within e is) ∙ none in
          let here = ap (option_and_then (after_origins n (holdings_in shards trees))) none in
          (here ∙ sym (ap (option_and_then (tree.after_origins n (links_in trees e.frame))) in_tree), λ q leads. absurd (cc (here, leads)))
      by (Some o) some rest =
          let in_tree : origin_in (links_in trees e.frame) p ≡ Some o = sym (origin_within (limits_in shards trees) shards trees p within e is) ∙ some in
          let m = held_with_origin (holdings_in shards trees) p o some in
          let from = lawful.origin p o m.0 m.1 m.2 in
          let there = entry_held o from.held from.is in
          let k = there.1 in
          let held_p : m.0 ≡ held_of trees p e = same_held m.0 (held_of trees p e) (sym m.1 ∙ present_within (limits_in shards trees) shards trees p within e is) in
          let frame : k.0.frame ≡ e.frame = sym (ap (λ (x : Held). x.frame) k.2) ∙ sym from.frame ∙ ap (λ (x : Held). x.frame) held_p in
          let next = rest o k.0 there.0 k.1 in
          let here = ap (option_and_then (after_origins n (holdings_in shards trees))) some in (
            here ∙ next.0 ∙ ap (λ f. tree.after_origins n (links_in trees f) o) frame ∙ sym (ap (option_and_then (tree.after_origins n (links_in trees e.frame))) in_tree),
            λ q leads. let last = next.1 q (sym here ∙ leads) in (last.0, last.1, last.2 ∙ frame),
          )
        where
          same_held : (x y : Held) → Some x ≡ Some y → x ≡ y
          same_held x y same = cc same

  -- ---- a run

  module _ (frame : ℕ) (run : Range ℕ) (is_run : IsRun (links_in trees frame) run) (some : run.start < run.end) (within_run : run.end ≤ length (links_in trees frame)) (c : Place) (first : (d : Place) → place_at (links_in trees frame) run.start d ≡ c) where
    first_listed : is_listed trees frame c ≡ true
    first_listed = subst (λ p. is_listed trees frame p ≡ true) (first c) (listed_at (links_in trees frame) run.start c (omega (arith, some, within_run)))

    among_leads : (p : Place) → is_among (links_in trees frame) run.start run.end p ≡ true → LeadsTo (links_in trees frame) 0 p c
    among_leads p among =
        let there = among_at (links_in trees frame) run.start run.end p c among in
        let in_range : (nat_le run.start there.0 && nat_lt there.0 run.end) ≡ true = rw (le-leb run.start there.0 there.1, lt-ltb there.0 run.end there.2) refl in
        subst (λ q. LeadsTo (links_in trees frame) 0 q c) there.4 (subst (LeadsTo (links_in trees frame) 0 (place_at (links_in trees frame) there.0 c)) (first c) ((is_run there.0 c there.3).0 in_range))

    leads_among : (p : Place) → is_listed trees frame p ≡ true → LeadsTo (links_in trees frame) 0 p c → is_among (links_in trees frame) run.start run.end p ≡ true
    leads_among p listed to =
        let there = stands (links_in trees frame) p c listed in
        let in_range = (is_run there.0 c there.1).1 (subst (λ q. LeadsTo (links_in trees frame) 0 q (place_at (links_in trees frame) run.start c)) (sym there.2) (subst (LeadsTo (links_in trees frame) 0 p) (sym (first c)) to)) in
        let bounds = and_parts (nat_le run.start there.0) (nat_lt there.0 run.end) in_range in
        subst (λ q. is_among (links_in trees frame) run.start run.end q ≡ true) there.2 (at_among (links_in trees frame) run.start run.end there.0 c (leb-true run.start there.0 bounds.0) (ltb-true there.0 run.end bounds.1) there.1)

    -- what is held is below the first place exactly where it stands in the run
    pub below_among : (p : Place) (e : Entry) → IsWithin (limits_in shards trees) p → entry_at shards p ≡ Some e → is_below (holdings_in shards trees) (only c) p ≡ is_among (links_in trees frame) run.start run.end p
    below_among p e within is =
        same_decision (is_below (holdings_in shards trees) (only c) p) (is_among (links_in trees frame) run.start run.end p)
        (below_is_a_chain (holdings_in shards trees) loose.lawful (only c) p) (decided (is_among (links_in trees frame) run.start run.end p)) there back
      where
        decided : (b : Bool) → Decides b (b ≡ true)
        decided b = ((λ x. x), λ x. x)

        there : LeadsInto (holdings_in shards trees) 0 (only c) p → is_among (links_in trees frame) run.start run.end p ≡ true
        there to =
            let agree = chains_agree to.origins p e within is in
            let into : to.into ≡ c = sym (same_is c to.into to.within) in
            let last = agree.1 to.into to.leads in
            let same_frame : e.frame ≡ frame = sym last.2 ∙ loose.frames frame c last.0 first_listed (ap (entry_at shards) (sym into) ∙ last.1) in
            let listed : is_listed trees frame p ≡ true = subst (λ f. is_listed trees f p ≡ true) same_frame (loose.fits.listed p e within is) in
            leads_among p listed (record { origins = to.origins; enough = omega arith; leads = ap (λ f. tree.after_origins to.origins (links_in trees f) p) (sym same_frame) ∙ sym agree.0 ∙ to.leads ∙ ap Some into })

        back : is_among (links_in trees frame) run.start run.end p ≡ true → LeadsInto (holdings_in shards trees) 0 (only c) p
        back among =
            let to = among_leads p among in
            let place = among_at (links_in trees frame) run.start run.end p c among in
            let listed : is_listed trees frame p ≡ true = subst (λ q. is_listed trees frame q ≡ true) place.4 (listed_at (links_in trees frame) place.0 c place.3) in
            let same_frame = loose.frames frame p e listed is in
            let agree = chains_agree to.origins p e within is in
            record { origins = to.origins; enough = omega arith; into = c; leads = agree.0 ∙ ap (λ f. tree.after_origins to.origins (links_in trees f) p) same_frame ∙ to.leads; within = same_self c }
