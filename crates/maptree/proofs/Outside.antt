-- What is left where runs are cut out is a forest, and its tree is what is left of the tree.
use Rattle.std.proofs.Common.{◌≡◌, ℕ, zero, suc, ◌+◌, ◌-◌, ◌≤◌, ◌<◌, true, false, Bool, ◌&&◌, ◌||◌, not, nat_le, nat_lt, List, [], ◌∷◌, ◌++◌, length, drop, take, map, filter, Some, refl, sym, ap, ◌∙◌, subst, arith, ◌⊎◌, inl, inr}
use Rattle.std.specs.List.{All, list_any, slice_range}
use Rattle.std.specs.Option.{option_and_then}
use Rattle.std.specs.declared.ops.Range.{Range}
use Rattle.std.proofs.lemmas.Bool.{and_parts, le-leb, lt-ltb, leb-true, ltb-true, cases_lt}
use Rattle.std.proofs.lemmas.List.{length-drop, append_assoc, map-append, take-map, drop-map, length-map}
use Rattle.std.proofs.lemmas.List.Elements.{filter-append, All-nil, All-cons}
use Rattle.space.specs.declared.place.Place.{Place}
use Rattle.space.specs.Place.{same_place}
use Rattle.space.proofs.Places.{same_self, same_or_apart}
use Rattle.space.specs.declared.node.Node.{Node}
use Rattle.space.specs.declared.slice.Slice.{Slice}
use Rattle.maptree.specs.Origins.{Origins, origin_in, after_origins, place_at, LeadsTo, HasDepth, IsRun, AreRising}
use Rattle.maptree.specs.Nodes.{are_depths, is_new, are_distinct, is_forest, above, links, origins_of}
use Rattle.space.specs.Slices.{pieces, nodes_of}
use Rattle.maptree.specs.Cuts.{outside, pieces_of, places_of, joined, IsCutting, ArePartsOf, IsCut}
use Rattle.maptree.proofs.Paths.{HasPlace, new_apart}
use Rattle.maptree.proofs.Runs.{place_of, depth_of, forest_depth}
use Rattle.maptree.proofs.Positions.{length-links, place_at-links, not_behind}
use Rattle.maptree.proofs.Keeping.{kept, kept_forest}
use Rattle.maptree.proofs.Cuttings.{split_at}

-- the elements in the ranges
abbrev pub inside : {A : Type 0} → List (Range ℕ) → List A → List A
inside [] xs = []
inside (r ∷ rs) xs = slice_range xs r.start r.end ++ inside rs xs

-- all of these are the same
abbrev pub AllAre : Bool → List Bool → Type 0
AllAre b [] = Unit {0}
AllAre b (x ∷ xs) = (x ≡ b) × AllAre b xs

pub all_are_append : (b : Bool) (xs ys : List Bool) → AllAre b (xs ++ ys) → AllAre b xs × AllAre b ys
all_are_append b [] ys all = (tt, all)
all_are_append b (x ∷ xs) ys all = let rest = all_are_append b xs ys all.1 in ((all.0, rest.0), rest.1)

module _ {A : Type 0} (k : A → Bool) where
  pub filter_all : (xs : List A) → AllAre true (map k xs) → filter k xs ≡ xs
  filter_all [] all = refl
  filter_all (x ∷ xs) all = rw (all.0) (ap (λ ys. x ∷ ys) (filter_all xs all.1))

  filter_none : (xs : List A) → AllAre false (map k xs) → filter k xs ≡ []
  filter_none [] all = refl
  filter_none (x ∷ xs) all = rw (all.0) (filter_none xs all.1)

  pub map_slice : (a b : ℕ) (xs : List A) → slice_range (map k xs) a b ≡ map k (slice_range xs a b)
  map_slice a b xs = ap (take (b - a)) (drop-map k a xs) ∙ take-map k (b - a) (drop a xs)

  -- those that pass a test, where it tells what lies outside
  pub filter_outside : (from : ℕ) (rs : List (Range ℕ)) (xs : List A) → AreRising from rs (length xs) → AllAre true (outside from rs (map k xs)) → AllAre false (inside rs (map k xs))
      → filter k (drop from xs) ≡ outside from rs xs
  filter_outside from [] xs rise out in_ = filter_all (drop from xs) (subst (AllAre true) (drop-map k from xs) out)
  filter_outside from (r ∷ rs) xs rise out in_ =
      let outs = all_are_append true (slice_range (map k xs) from r.start) (outside r.end rs (map k xs)) out in
      let ins = all_are_append false (slice_range (map k xs) r.start r.end) (inside rs (map k xs)) in_ in
      ap (filter k) (split_at from r.start xs rise.0 ∙ ap (λ ys. slice_range xs from r.start ++ ys) (split_at r.start r.end xs (omega (arith, rise.1))))
      ∙ filter-append k (slice_range xs from r.start) (slice_range xs r.start r.end ++ drop r.end xs)
      ∙ ap (λ ys. ys ++ filter k (slice_range xs r.start r.end ++ drop r.end xs)) (filter_all (slice_range xs from r.start) (subst (AllAre true) (map_slice from r.start xs) outs.0))
      ∙ ap (λ ys. slice_range xs from r.start ++ ys) (filter-append k (slice_range xs r.start r.end) (drop r.end xs)
      ∙ ap (λ ys. ys ++ filter k (drop r.end xs)) (filter_none (slice_range xs r.start r.end) (subst (AllAre false) (map_slice r.start r.end xs) ins.0))
      ∙ filter_outside r.end rs xs rise.2 outs.1 ins.1)

  pub map_outside : (from : ℕ) (rs : List (Range ℕ)) (xs : List A) → outside from rs (map k xs) ≡ map k (outside from rs xs)
  map_outside from [] xs = drop-map k from xs
  map_outside from (r ∷ rs) xs = rw (map_slice from r.start xs, map_outside r.end rs xs) (sym (map-append k (slice_range xs from r.start) (outside r.end rs xs)))

  pub map_inside : (rs : List (Range ℕ)) (xs : List A) → inside rs (map k xs) ≡ map k (inside rs xs)
  map_inside [] xs = refl
  map_inside (r ∷ rs) xs = rw (map_slice r.start r.end xs, map_inside rs xs) (sym (map-append k (slice_range xs r.start r.end) (inside rs xs)))

-- ---- places of parts of a list

pub has_append : (p : Place) (xs ys : List Node) → HasPlace p (xs ++ ys) → HasPlace p xs ⊎ HasPlace p ys
has_append p [] ys k = inr k
has_append p (x ∷ xs) ys (inl same) = inl (inl same)
has_append p (x ∷ xs) ys (inr k) = by (has_append p xs ys k)
  where
    by : HasPlace p xs ⊎ HasPlace p ys → HasPlace p (x ∷ xs) ⊎ HasPlace p ys
    by (inl k) = inl (inr k)
    by (inr k) = inr k

pub has_front : (p : Place) (xs ys : List Node) → HasPlace p xs → HasPlace p (xs ++ ys)
has_front p [] ys k = absurd k
has_front p (x ∷ xs) ys (inl same) = inl same
has_front p (x ∷ xs) ys (inr k) = inr (has_front p xs ys k)

pub has_back : (p : Place) (xs ys : List Node) → HasPlace p ys → HasPlace p (xs ++ ys)
has_back p [] ys k = k
has_back p (x ∷ xs) ys k = inr (has_back p xs ys k)

distinct_append : (xs ys : List Node) → are_distinct (xs ++ ys) ≡ true → (are_distinct ys ≡ true) × ((p : Place) → HasPlace p xs → HasPlace p ys → ⊥)
distinct_append [] ys distinct = (distinct, λ p k l. k)
distinct_append (x ∷ xs) ys distinct =
    let parts = and_parts (is_new x.place (xs ++ ys)) (are_distinct (xs ++ ys)) distinct in
    let rest = distinct_append xs ys parts.1 in
    (rest.0, λ p k l. by p parts.0 rest.1 k l)
  where
    by : (p : Place) → is_new x.place (xs ++ ys) ≡ true → ((p : Place) → HasPlace p xs → HasPlace p ys → ⊥) → (p ≡ x.place) ⊎ HasPlace p xs → HasPlace p ys → ⊥
    by p new apart (inl same) l = let other = new_apart x.place p (xs ++ ys) new (has_back p xs ys l) in absurd (cc (other, ap (same_place x.place) same, same_self x.place))
    by p new apart (inr k) l = apart p k l

module _ (ns : List Node) where
  outside_in : (from : ℕ) (rs : List (Range ℕ)) (p : Place) → AreRising from rs (length ns) → HasPlace p (outside from rs ns) → HasPlace p (drop from ns)
  outside_in from [] p rise k = k
  outside_in from (r ∷ rs) p rise k =
      let middle : drop from ns ≡ slice_range ns from r.start ++ (slice_range ns r.start r.end ++ drop r.end ns) = split_at from r.start ns rise.0 ∙ ap (λ ys. slice_range ns from r.start ++ ys) (split_at r.start r.end ns (omega (arith, rise.1))) in
      subst (HasPlace p) (sym middle) (by (has_append p (slice_range ns from r.start) (outside r.end rs ns) k) (outside_in r.end rs p rise.2))
    where
      by : HasPlace p (slice_range ns from r.start) ⊎ HasPlace p (outside r.end rs ns) → (HasPlace p (outside r.end rs ns) → HasPlace p (drop r.end ns)) → HasPlace p (slice_range ns from r.start ++ (slice_range ns r.start r.end ++ drop r.end ns))
      by (inl k) rest = has_front p (slice_range ns from r.start) (slice_range ns r.start r.end ++ drop r.end ns) k
      by (inr k) rest = has_back p (slice_range ns from r.start) (slice_range ns r.start r.end ++ drop r.end ns) (has_back p (slice_range ns r.start r.end) (drop r.end ns) (rest k))

  inside_in : (from : ℕ) (rs : List (Range ℕ)) (p : Place) → AreRising from rs (length ns) → HasPlace p (inside rs ns) → HasPlace p (drop from ns)
  inside_in from [] p rise k = absurd k
  inside_in from (r ∷ rs) p rise k =
      let middle : drop from ns ≡ slice_range ns from r.start ++ (slice_range ns r.start r.end ++ drop r.end ns) = split_at from r.start ns rise.0 ∙ ap (λ ys. slice_range ns from r.start ++ ys) (split_at r.start r.end ns (omega (arith, rise.1))) in
      subst (HasPlace p) (sym middle) (has_back p (slice_range ns from r.start) (slice_range ns r.start r.end ++ drop r.end ns)
      (by (has_append p (slice_range ns r.start r.end) (inside rs ns) k) (inside_in r.end rs p rise.2)))
    where
      by : HasPlace p (slice_range ns r.start r.end) ⊎ HasPlace p (inside rs ns) → (HasPlace p (inside rs ns) → HasPlace p (drop r.end ns)) → HasPlace p (slice_range ns r.start r.end ++ drop r.end ns)
      by (inl k) rest = has_front p (slice_range ns r.start r.end) (drop r.end ns) k
      by (inr k) rest = has_back p (slice_range ns r.start r.end) (drop r.end ns) (rest k)

  -- no place lies both outside and inside
  apart : (from : ℕ) (rs : List (Range ℕ)) (p : Place) → AreRising from rs (length ns) → are_distinct (drop from ns) ≡ true → HasPlace p (outside from rs ns) → HasPlace p (inside rs ns) → ⊥
  apart from [] p rise distinct k l = l
  apart from (r ∷ rs) p rise distinct k l =
      let middle : drop from ns ≡ slice_range ns from r.start ++ (slice_range ns r.start r.end ++ drop r.end ns) = split_at from r.start ns rise.0 ∙ ap (λ ys. slice_range ns from r.start ++ ys) (split_at r.start r.end ns (omega (arith, rise.1))) in
      let first_part = distinct_append (slice_range ns from r.start) (slice_range ns r.start r.end ++ drop r.end ns) (ap are_distinct (sym middle) ∙ distinct) in
      let second_part = distinct_append (slice_range ns r.start r.end) (drop r.end ns) first_part.0 in
      by first_part.1 second_part.1 (has_append p (slice_range ns from r.start) (outside r.end rs ns) k) (has_append p (slice_range ns r.start r.end) (inside rs ns) l)
      (apart r.end rs p rise.2 second_part.0)
    where
      by : ((p : Place) → HasPlace p (slice_range ns from r.start) → HasPlace p (slice_range ns r.start r.end ++ drop r.end ns) → ⊥)
          → ((p : Place) → HasPlace p (slice_range ns r.start r.end) → HasPlace p (drop r.end ns) → ⊥)
          → HasPlace p (slice_range ns from r.start) ⊎ HasPlace p (outside r.end rs ns) → HasPlace p (slice_range ns r.start r.end) ⊎ HasPlace p (inside rs ns)
          → (HasPlace p (outside r.end rs ns) → HasPlace p (inside rs ns) → ⊥) → ⊥
      by one two (inl k) (inl l) rest = one p k (has_front p (slice_range ns r.start r.end) (drop r.end ns) l)
      by one two (inl k) (inr l) rest = one p k (has_back p (slice_range ns r.start r.end) (drop r.end ns) (inside_in r.end rs p rise.2 l))
      by one two (inr k) (inl l) rest = two p l (outside_in r.end rs p rise.2 k)
      by one two (inr k) (inr l) rest = rest k l

-- ---- places of a range, by their positions

place_of_drop : (a : ℕ) (ns : List Node) (i : ℕ) (d : Place) → place_of (drop a ns) i d ≡ place_of ns (a + i) d
place_of_drop zero ns i d = let same : i ≡ 0 + i = omega arith in ap (λ j. place_of ns j d) same
place_of_drop (suc a) [] i d = refl
place_of_drop (suc a) (n ∷ ns) i d = let more : suc a + i ≡ suc (a + i) = omega arith in place_of_drop a ns i d ∙ ap (λ j. place_of (n ∷ ns) j d) (sym more)

taken : (m : ℕ) (ns : List Node) (p : Place) → HasPlace p (take m ns) → (i : ℕ) × (i < m) × (i < length ns) × ((d : Place) → place_of ns i d ≡ p)
taken zero ns p k = absurd k
taken (suc m) [] p k = absurd k
taken (suc m) (n ∷ ns) p (inl same) = (0, omega arith, omega arith, λ d. sym same)
taken (suc m) (n ∷ ns) p (inr k) = let rest = taken m ns p k in (suc rest.0, omega (arith, rest.1), omega (arith, rest.2), rest.3)

has_taken : (m : ℕ) (ns : List Node) (i : ℕ) (d : Place) → i < m → i < length ns → HasPlace (place_of ns i d) (take m ns)
has_taken zero ns i d less within = absurd (omega (arith, less))
has_taken (suc m) [] i d less within = absurd (omega (arith, within))
has_taken (suc m) (n ∷ ns) zero d less within = inl refl
has_taken (suc m) (n ∷ ns) (suc i) d less within = inr (has_taken m ns i d (omega (arith, less)) (omega (arith, within)))

pub slice_has : (ns : List Node) (a b : ℕ) (p : Place) → HasPlace p (slice_range ns a b) → (j : ℕ) × (a ≤ j) × (j < b) × (j < length ns) × ((d : Place) → place_of ns j d ≡ p)
slice_has ns a b p k =
    let there = taken (b - a) (drop a ns) p k in
    let size = length-drop a ns in
    (a + there.0, omega arith, omega (arith, there.1), omega (arith, there.2, size), λ d. sym (place_of_drop a ns there.0 d) ∙ there.3 d)

pub has_slice : (ns : List Node) (a b j : ℕ) (d : Place) → a ≤ j → j < b → j < length ns → HasPlace (place_of ns j d) (slice_range ns a b)
has_slice ns a b j d least less within =
    let size = length-drop a ns in
    let whole : a + (j - a) ≡ j = omega (arith, least) in
    subst (λ p. HasPlace p (slice_range ns a b)) (place_of_drop a ns (j - a) d ∙ ap (λ i. place_of ns i d) whole) (has_taken (b - a) (drop a ns) (j - a) d (omega (arith, least, less)) (omega (arith, size, least, within)))

-- a place with an origin has a position
pub placed : (os : Origins) (p o : Place) (d : Place) → origin_in os p ≡ Some o → (j : ℕ) × (j < length os) × (place_at os j d ≡ p)
placed [] p o d is = absurd (cc is)
placed (e ∷ os) p o d is = by (same_or_apart p e.0) (placed os p o d)
  where
    by : (p ≡ e.0) ⊎ (same_place p e.0 ≡ false) → (origin_in os p ≡ Some o → (j : ℕ) × (j < length os) × (place_at os j d ≡ p)) → (j : ℕ) × (j < length (e ∷ os)) × (place_at (e ∷ os) j d ≡ p)
    by (inl same) rest = (0, omega arith, sym same)
    by (inr apart) rest =
        let later = rest (rw apart at is) in
        (suc later.0, omega (arith, later.1), later.2)

-- ---- a cut

-- whether a node of the list has the place
abbrev pub has_any : Place → List Node → Bool
has_any p ns = list_any (λ n. same_place p n.place) ns

has_any_from : (p : Place) (ns : List Node) → HasPlace p ns → has_any p ns ≡ true
has_any_from p [] k = absurd k
has_any_from p (n ∷ ns) (inl same) = rw (ap (same_place p) (sym same) ∙ same_self p) refl
has_any_from p (n ∷ ns) (inr k) = rw (has_any_from p ns k) (elim (same_place p n.place) as (λ b. (b || true) ≡ true) [ true ↦ refl | false ↦ refl ])

has_from_any : (p : Place) (ns : List Node) → has_any p ns ≡ true → HasPlace p ns
has_from_any p [] is = absurd (cc is)
has_from_any p (n ∷ ns) is = by (same_or_apart p n.place) (has_from_any p ns)
  where
    by : (p ≡ n.place) ⊎ (same_place p n.place ≡ false) → (has_any p ns ≡ true → HasPlace p ns) → HasPlace p (n ∷ ns)
    by (inl same) rest = inl same
    by (inr apart) rest = inr (rest (rw apart at is))

-- a node is one of a list
abbrev HasNode : Node → List Node → Type 0
HasNode n [] = ⊥
HasNode n (m ∷ ms) = (n ≡ m) ⊎ HasNode n ms

node_has : (n : Node) (ns : List Node) → HasNode n ns → HasPlace n.place ns
node_has n [] k = absurd k
node_has n (m ∷ ms) (inl same) = inl (ap (λ x. x.place) same)
node_has n (m ∷ ms) (inr k) = inr (node_has n ms k)

all_from : (k : Node → Bool) (b : Bool) (ns : List Node) → ((n : Node) → HasNode n ns → k n ≡ b) → AllAre b (map k ns)
all_from k b [] each = tt
all_from k b (n ∷ ns) each = (each n (inl refl), all_from k b ns (λ m there. each m (inr there)))

-- the places of a list tell of its tree what they tell of its nodes
pub tests_links : (k : Place → Bool) (path : List Place) (ns : List Node) → map (λ o. k o.0) (links path ns) ≡ map (λ n. k n.place) ns
tests_links k path [] = refl
tests_links k path (n ∷ ns) = ap (λ bs. k n.place ∷ bs) (tests_links k (n.place ∷ above n path) ns)

module _ (ns : List Node) (rs : List (Range ℕ)) where
  -- the places that a cut leaves
  abbrev pub stays : Place → Bool
  stays p = not (has_any p (inside rs ns))

  stays_outside : AreRising 0 rs (length ns) → are_distinct ns ≡ true → AllAre true (outside 0 rs (map (λ n. stays n.place) ns))
  stays_outside rise distinct =
      subst (AllAre true) (sym (map_outside (λ n. stays n.place) 0 rs ns)) (all_from (λ n. stays n.place) true (outside 0 rs ns) (λ n there. by n there (has_any n.place (inside rs ns)) refl))
    where
      by : (n : Node) → HasNode n (outside 0 rs ns) → (b : Bool) → has_any n.place (inside rs ns) ≡ b → not (has_any n.place (inside rs ns)) ≡ true
      by n there true is = absurd (apart ns 0 rs n.place rise distinct (node_has n (outside 0 rs ns) there) (has_from_any n.place (inside rs ns) is))
      by n there false is = ap not is

  gone_inside : AllAre false (inside rs (map (λ n. stays n.place) ns))
  gone_inside =
      subst (AllAre false) (sym (map_inside (λ n. stays n.place) rs ns)) (all_from (λ n. stays n.place) false (inside rs ns) (λ n there. ap not (has_any_from n.place (inside rs ns) (node_has n (inside rs ns) there))))

  -- a place whose origin is cut out is cut out too
  module _ (p o : Place) (is : origin_in (origins_of ns) p ≡ Some o) where
    run_has : (r : Range ℕ) → IsRun (origins_of ns) r → HasPlace o (slice_range ns r.start r.end) → HasPlace p (slice_range ns r.start r.end)
    run_has r run k =
        let size = length-links [] ns in
        let at_o = slice_has ns r.start r.end o k in
        let at_p = placed (origins_of ns) p o p is in
        let here : place_at (origins_of ns) at_o.0 p ≡ o = place_at-links [] ns at_o.0 p ∙ at_o.4 p in
        let in_range : (nat_le r.start at_o.0 && nat_lt at_o.0 r.end) ≡ true = rw (le-leb r.start at_o.0 at_o.1, lt-ltb at_o.0 r.end at_o.2) refl in
        let to : LeadsTo (origins_of ns) 0 o (place_at (origins_of ns) r.start p) = subst (λ q. LeadsTo (origins_of ns) 0 q (place_at (origins_of ns) r.start p)) here ((run at_o.0 p (omega (arith, size, at_o.3))).0 in_range) in
        let further : LeadsTo (origins_of ns) 0 p (place_at (origins_of ns) r.start p) = record { origins = suc to.origins; enough = omega arith; leads = ap (option_and_then (after_origins to.origins (origins_of ns))) is ∙ to.leads } in
        let there = (run at_p.0 p at_p.1).1 (subst (λ q. LeadsTo (origins_of ns) 0 q (place_at (origins_of ns) r.start p)) (sym at_p.2) further) in
        let bounds = and_parts (nat_le r.start at_p.0) (nat_lt at_p.0 r.end) there in
        subst (λ q. HasPlace q (slice_range ns r.start r.end)) (sym (place_at-links [] ns at_p.0 p) ∙ at_p.2)
        (has_slice ns r.start r.end at_p.0 p (leb-true r.start at_p.0 bounds.0) (ltb-true at_p.0 r.end bounds.1) (omega (arith, size, at_p.1)))

    runs_have : (rs : List (Range ℕ)) → All (IsRun (origins_of ns)) rs → HasPlace o (inside rs ns) → HasPlace p (inside rs ns)
    runs_have [] runs k = k
    runs_have (r ∷ rs) runs k = by (has_append o (slice_range ns r.start r.end) (inside rs ns) k) (runs_have rs (λ k d w. runs (suc k) d (omega (arith, w))))
      where
        by : HasPlace o (slice_range ns r.start r.end) ⊎ HasPlace o (inside rs ns) → (HasPlace o (inside rs ns) → HasPlace p (inside rs ns)) → HasPlace p (slice_range ns r.start r.end ++ inside rs ns)
        by (inl k) rest = has_front p (slice_range ns r.start r.end) (inside rs ns) (run_has r (runs 0 r (omega arith)) k)
        by (inr k) rest = has_back p (slice_range ns r.start r.end) (inside rs ns) (rest k)

  -- what derives from what is cut out is cut out too
  abbrev TakesAllBelow : Type 0
  TakesAllBelow = (p o : Place) → origin_in (origins_of ns) p ≡ Some o → HasPlace o (inside rs ns) → HasPlace p (inside rs ns)

  origin_stays : TakesAllBelow → (p o : Place) → origin_in (origins_of ns) p ≡ Some o → stays p ≡ true → stays o ≡ true
  origin_stays below p o is here = by (has_any o (inside rs ns)) refl
    where
      by : (b : Bool) → has_any o (inside rs ns) ≡ b → not (has_any o (inside rs ns)) ≡ true
      by true there = let gone = has_any_from p (inside rs ns) (below p o is (has_from_any o (inside rs ns) there)) in absurd (cc (here, ap not gone))
      by false there = ap not there

  below_forest : is_forest ns ≡ true → AreRising 0 rs (length ns) → TakesAllBelow
      → (is_forest (outside 0 rs ns) ≡ true) × (origins_of (outside 0 rs ns) ≡ outside 0 rs (origins_of ns))
  below_forest forest rise below =
      let parts = and_parts (are_depths 0 ns) (are_distinct ns) forest in
      let out = stays_outside rise parts.1 in
      let size = length-links [] ns in
      let same = tests_links stays [] ns in
      let left : kept stays ns ≡ outside 0 rs ns = filter_outside (λ n. stays n.place) 0 rs ns rise out gone_inside in
      let left_links : filter (λ o. stays o.0) (origins_of ns) ≡ outside 0 rs (origins_of ns) =
      filter_outside (λ o. stays o.0) 0 rs (origins_of ns) (subst (AreRising 0 rs) (sym size) rise) (subst (λ bs. AllAre true (outside 0 rs bs)) (sym same) out) (subst (λ bs. AllAre false (inside rs bs)) (sym same) gone_inside) in
      let says = kept_forest stays ns forest (origin_stays below) in
      (ap is_forest (sym left) ∙ says.0, ap origins_of (sym left) ∙ says.1 ∙ left_links)

  pub cut_forest : is_forest ns ≡ true → AreRising 0 rs (length ns) → All (IsRun (origins_of ns)) rs
      → (is_forest (outside 0 rs ns) ≡ true) × (origins_of (outside 0 rs ns) ≡ outside 0 rs (origins_of ns))
  cut_forest forest rise runs = below_forest forest rise (λ p o is. runs_have p o is rs runs)

-- the end of a run is cut out
pub end_forest : (ns : List Node) (r : Range ℕ) (from : ℕ) → is_forest ns ≡ true → IsRun (origins_of ns) r → r.start ≤ from → from < r.end → r.end ≤ length ns
    → (is_forest (outside 0 (record { start = from; end = r.end } ∷ []) ns) ≡ true)
    × (origins_of (outside 0 (record { start = from; end = r.end } ∷ []) ns) ≡ outside 0 (record { start = from; end = r.end } ∷ []) (origins_of ns))
end_forest ns r from forest run behind some within =
    below_forest ns (record { start = from; end = r.end } ∷ []) forest (omega arith, some, within) (λ p o is k. has_front p (slice_range ns from r.end) [] (by p o is (has_append o (slice_range ns from r.end) [] k)))
  where
    by : (p o : Place) → origin_in (origins_of ns) p ≡ Some o → HasPlace o (slice_range ns from r.end) ⊎ HasPlace o [] → HasPlace p (slice_range ns from r.end)
    by p o is (inr k) = absurd k
    by p o is (inl k) =
        let size = length-links [] ns in
        let at_o = slice_has ns from r.end o k in
        let at_p = placed (origins_of ns) p o p is in
        let here : place_at (origins_of ns) at_o.0 p ≡ o = place_at-links [] ns at_o.0 p ∙ at_o.4 p in
        let low = at_o.1 in
        let in_range : (nat_le r.start at_o.0 && nat_lt at_o.0 r.end) ≡ true = rw (le-leb r.start at_o.0 (omega (arith, low, behind)), lt-ltb at_o.0 r.end at_o.2) refl in
        let to : LeadsTo (origins_of ns) 0 o (place_at (origins_of ns) r.start p) = subst (λ q. LeadsTo (origins_of ns) 0 q (place_at (origins_of ns) r.start p)) here ((run at_o.0 p (omega (arith, size, at_o.3))).0 in_range) in
        let further : LeadsTo (origins_of ns) 0 p (place_at (origins_of ns) r.start p) = record { origins = suc to.origins; enough = omega arith; leads = ap (option_and_then (after_origins to.origins (origins_of ns))) is ∙ to.leads } in
        let there = (run at_p.0 p at_p.1).1 (subst (λ q. LeadsTo (origins_of ns) 0 q (place_at (origins_of ns) r.start p)) (sym at_p.2) further) in
        let bounds = and_parts (nat_le r.start at_p.0) (nat_lt at_p.0 r.end) there in
        let within_p : at_p.0 < length ns = omega (arith, size, at_p.1) in
        let one : LeadsTo (origins_of ns) 1 p o = record { origins = 1; enough = omega arith; leads = ap (option_and_then (after_origins 0 (origins_of ns))) is } in
        let later : at_o.0 < at_p.0 = by_order at_o.0 at_p.0 (cases_lt at_o.0 at_p.0) (λ upto. (not_behind ns at_o.0 at_p.0 forest at_o.3 within_p upto p).1
        (subst (λ q. LeadsTo (origins_of ns) 1 q (place_at (origins_of ns) at_o.0 p)) (sym at_p.2) (subst (λ q. LeadsTo (origins_of ns) 1 p q) (sym here) one))) in
        subst (λ q. HasPlace q (slice_range ns from r.end)) (sym (place_at-links [] ns at_p.0 p) ∙ at_p.2)
        (has_slice ns from r.end at_p.0 p (omega (arith, low, later)) (ltb-true at_p.0 r.end bounds.1) within_p)
      where
        by_order : (a b : ℕ) → (a < b) ⊎ (b ≤ a) → (b ≤ a → false ≡ true) → a < b
        by_order a b (inl less) never = less
        by_order a b (inr upto) never = absurd (cc (never upto))

-- ---- the parts of a cut

-- the places of a list are those of its tree
places_links : (path : List Place) (ns : List Node) → map (λ o. o.0) (links path ns) ≡ map (λ n. n.place) ns
places_links path [] = refl
places_links path (n ∷ ns) = ap (λ ps. n.place ∷ ps) (places_links (n.place ∷ above n path) ns)

module _ {A B : Type 0} (f : A → B) where
  pieces_map : (n most : ℕ) (xs : List A) → pieces n most (map f xs) ≡ map (map f) (pieces n most xs)
  pieces_map zero most xs = refl
  pieces_map (suc n) most [] = refl
  pieces_map (suc n) most (x ∷ xs) = rw (take-map f most (x ∷ xs), drop-map f most (x ∷ xs)) (ap (λ ps. map f (take most (x ∷ xs)) ∷ ps) (pieces_map n most (drop most (x ∷ xs))))

  slice_map : (a b : ℕ) (xs : List A) → slice_range (map f xs) a b ≡ map f (slice_range xs a b)
  slice_map a b xs = ap (take (b - a)) (drop-map f a xs) ∙ take-map f (b - a) (drop a xs)

  pieces_of_map : (most : ℕ) (rs : List (Range ℕ)) (xs : List A) → pieces_of most rs (map f xs) ≡ map (map f) (pieces_of most rs xs)
  pieces_of_map most [] xs = refl
  pieces_of_map most (r ∷ rs) xs =
      rw (slice_map r.start r.end xs, length-map (slice_range xs r.start r.end) f, pieces_map (length (slice_range xs r.start r.end)) most (slice_range xs r.start r.end), pieces_of_map most rs xs)
      (sym (map-append (map f) (pieces (length (slice_range xs r.start r.end)) most (slice_range xs r.start r.end)) (pieces_of most rs xs)))

pub parts_places : (ns : List Node) (rs : List (Range ℕ)) (most : ℕ) (parts : List Slice) → nodes_of parts ≡ pieces_of most rs ns → places_of parts ≡ pieces_of most rs (map (λ o. o.0) (origins_of ns))
parts_places ns rs most parts are =
    map_twice parts ∙ ap (map (map (λ n. n.place))) are ∙ sym (pieces_of_map (λ n. n.place) most rs ns) ∙ ap (pieces_of most rs) (sym (places_links [] ns))
  where
    map_twice : (parts : List Slice) → places_of parts ≡ map (map (λ n. n.place)) (nodes_of parts)
    map_twice [] = refl
    map_twice (s ∷ parts) = ap (λ ps. map (λ n. n.place) s.nodes.items ∷ ps) (map_twice parts)

-- each node has as many origins as its depth says
module _ (P : Place → ℕ → Type 0) where
  abbrev pub AllNodes : List Node → Type 0
  AllNodes ns = All (λ n. P n.place n.depth) ns

  all_nodes : (ns : List Node) → ((i : ℕ) (d : Place) → i < length ns → P (place_of ns i d) (depth_of ns i)) → AllNodes ns
  all_nodes [] each = All-nil (λ n. P n.place n.depth)
  all_nodes (n ∷ ns) each = All-cons (λ n. P n.place n.depth) n ns (each 0 n.place (omega arith)) (all_nodes ns (λ i d within. each (suc i) d (omega (arith, within))))

  back_part : (xs ys : List Node) → AllNodes (xs ++ ys) → AllNodes ys
  back_part [] ys all = all
  back_part (x ∷ xs) ys all = back_part xs ys (λ k d w. all (suc k) d (omega (arith, w)))

  front_part : (xs ys : List Node) → AllNodes (xs ++ ys) → AllNodes xs
  front_part [] ys all = All-nil (λ n. P n.place n.depth)
  front_part (x ∷ xs) ys all = All-cons (λ n. P n.place n.depth) x xs (all 0 x (omega arith)) (front_part xs ys (λ k d w. all (suc k) d (omega (arith, w))))

  joined_parts : (from : ℕ) (left : List Node) (gaps : List ℕ) (parts : List Slice) → length gaps ≡ length parts → AllNodes (joined from left gaps (nodes_of parts)) → All (λ s. AllNodes s.nodes.items) parts
  joined_parts from left [] [] same all = All-nil (λ s. AllNodes s.nodes.items)
  joined_parts from left [] (s ∷ parts) same all = absurd (omega (arith, same))
  joined_parts from left (gap ∷ gaps) [] same all = absurd (omega (arith, same))
  joined_parts from left (gap ∷ gaps) (s ∷ parts) same all =
      let rest = back_part (slice_range left from gap) (s.nodes.items ++ joined gap left gaps (nodes_of parts)) (subst AllNodes (append_assoc (slice_range left from gap) s.nodes.items (joined gap left gaps (nodes_of parts))) all) in
      All-cons (λ s. AllNodes s.nodes.items) s parts (front_part s.nodes.items (joined gap left gaps (nodes_of parts)) rest)
      (joined_parts gap left gaps parts (omega (arith, same)) (back_part s.nodes.items (joined gap left gaps (nodes_of parts)) rest))

pub parts_depths : (ns left : List Node) (gaps : List ℕ) (parts : List Slice) → is_forest ns ≡ true → length gaps ≡ length parts → joined 0 left gaps (nodes_of parts) ≡ ns
    → All (λ s. All (λ n. HasDepth (origins_of ns) n.place n.depth) s.nodes.items) parts
parts_depths ns left gaps parts forest same whole =
    joined_parts (HasDepth (origins_of ns)) 0 left gaps parts same (subst (AllNodes (HasDepth (origins_of ns))) (sym whole) (all_nodes (HasDepth (origins_of ns)) ns (λ i d within. forest_depth ns forest i d within)))

-- the places from a position up to another
pub part_places : (ns : List Node) (a b : ℕ) → map (λ n. n.place) (slice_range ns a b) ≡ slice_range (map (λ o. o.0) (origins_of ns)) a b
part_places ns a b = sym (slice_map (λ (n : Node). n.place) a b ns) ∙ ap (λ ps. slice_range ps a b) (sym (places_links [] ns))

-- the nodes there have the depths that they have in the tree
pub part_depths : (ns : List Node) (a b : ℕ) → is_forest ns ≡ true → All (λ n. HasDepth (origins_of ns) n.place n.depth) (slice_range ns a b)
part_depths ns a b forest =
    taken (b - a) (drop a ns) (dropped a ns (all_nodes (HasDepth (origins_of ns)) ns (λ i d within. forest_depth ns forest i d within)))
  where
    dropped : (n : ℕ) (xs : List Node) → AllNodes (HasDepth (origins_of ns)) xs → AllNodes (HasDepth (origins_of ns)) (drop n xs)
    dropped zero xs all = all
    dropped (suc n) [] all = all
    dropped (suc n) (x ∷ xs) all = dropped n xs (λ k d w. all (suc k) d (omega (arith, w)))

    taken : (n : ℕ) (xs : List Node) → AllNodes (HasDepth (origins_of ns)) xs → AllNodes (HasDepth (origins_of ns)) (take n xs)
    taken zero xs all = All-nil (λ n. HasDepth (origins_of ns) n.place n.depth)
    taken (suc n) [] all = all
    taken (suc n) (x ∷ xs) all =
        All-cons (λ n. HasDepth (origins_of ns) n.place n.depth) x (take n xs) (all 0 x (omega arith)) (taken n xs (λ k d w. all (suc k) d (omega (arith, w))))

-- what a cut of a tree leaves and gives
pub record IsCutOut (ns : List Node) (rs : List (Range ℕ)) (most : ℕ) (left : List Node) (gaps : List ℕ) (taken : List Slice) : Type 0 where
  pub forest : is_forest left ≡ true
  pub links : origins_of left ≡ outside 0 rs (origins_of ns)
  pub parts : ArePartsOf (origins_of ns) rs most taken
  pub cut : (room : ℕ) → IsCut (origins_of ns) (nodes_of taken) (record { links = origins_of left; room = room; gaps = gaps })

pub cut_out : (ns : List Node) (rs : List (Range ℕ)) (most : ℕ) (left : List Node) (gaps : List ℕ) (parts : List Slice) → is_forest ns ≡ true → AreRising 0 rs (length (origins_of ns)) → All (IsRun (origins_of ns)) rs
    → left ≡ outside 0 rs ns → nodes_of parts ≡ pieces_of most rs ns → IsCutting ns left gaps parts → IsCutOut ns rs most left gaps parts
cut_out ns rs most left gaps parts forest rise runs left_is parts_are whole =
    let out = cut_forest ns rs forest (subst (AreRising 0 rs) (length-links [] ns) rise) runs in
    let left_forest : is_forest left ≡ true = ap is_forest left_is ∙ out.0 in
    record {
      forest = left_forest;
      links = ap origins_of left_is ∙ out.1;
      parts = record { places = parts_places ns rs most parts parts_are; depths = parts_depths ns left gaps parts forest whole.each_part whole.whole };
      cut = λ room. record {
        left = left;
        tree_is = refl;
        forest = left_forest;
        gaps = whole.gaps_are;
        each_part = whole.each_part ∙ sym (length-map parts (λ s. s.nodes.items));
        whole_is = ap origins_of (sym whole.whole);
        whole = ap is_forest whole.whole ∙ forest;
      };
    }
