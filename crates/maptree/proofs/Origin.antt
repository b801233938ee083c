-- The origin of a node is the nearest one before it that is less deep.
use Rattle.std.proofs.Common.{◌≡◌, ℕ, zero, suc, ◌+◌, ◌-◌, ◌<◌, ◌≤◌, true, nat_le, ◌&&◌, nat_lt, List, [], ◌∷◌, length, Option, Some, None, refl, sym, ap, ◌∙◌, subst, arith, ◌⊎◌, inl, inr, take, drop, min}
use Rattle.std.specs.Option.{option_and_then}
use Rattle.std.proofs.lemmas.Bool.{and_parts, leb-true, lt-ltb}
use Rattle.space.specs.declared.place.Place.{Place}
use Rattle.space.specs.declared.node.Node.{Node}
use Rattle.maptree.specs.Origins.{Origins, origin_in, after_origins, place_at, LeadsTo, HasDepth}
use Rattle.maptree.specs.Nodes.{are_depths, are_distinct, is_forest, origins_of, run_len, last_less, one_on}
use Rattle.maptree.proofs.Runs.{place_of, depth_of, run_at, forest_strict, forest_depth}
use Rattle.maptree.proofs.Depths.{none_less, least_zero, first_alone}
use Rattle.maptree.specs.Blocks.{is_least}
use Rattle.maptree.proofs.Positions.{place_at-links}

-- ---- depths along origins

module _ (os : Origins) where
  depth_after : (n k m : ℕ) (p q : Place) → m ≡ n + k → after_origins n os p ≡ Some q → HasDepth os q k → HasDepth os p m
  depth_after zero k m p q size leads depth =
      let same : q ≡ p = cc leads in
      let all : k ≡ m = omega (arith, size) in
      subst (HasDepth os p) all (subst (λ x. HasDepth os x k) same depth)
  depth_after (suc n) k zero p q size leads depth = absurd (omega (arith, size))
  depth_after (suc n) k (suc m) p q size leads depth = by (origin_in os p) refl leads (λ o l. depth_after n k m o q (omega (arith, size)) l depth)
    where
      by : (o : Option Place) → origin_in os p ≡ o → option_and_then (after_origins n os) o ≡ Some q → ((o : Place) → after_origins n os o ≡ Some q → HasDepth os o m) → HasDepth os p (suc m)
      by None is leads rest = absurd (cc leads)
      by (Some o) is leads rest = let r = rest o leads in record { root = r.root; leads = ap (option_and_then (after_origins m os)) is ∙ r.leads; ends = r.ends }

  no_origin : (p : Place) (n : ℕ) (q : Place) → origin_in os p ≡ None → after_origins (suc n) os p ≡ Some q → ⊥
  no_origin p n q none leads = let e : None ≡ Some q = sym (ap (option_and_then (after_origins n os)) none) ∙ leads in cc e

  depth_once : (a b : ℕ) (p : Place) → HasDepth os p a → HasDepth os p b → a ≡ b
  depth_once zero zero p x y = refl
  depth_once zero (suc b) p x y = let same : x.root ≡ p = cc (x.leads) in absurd (no_origin p b y.root (sym (ap (origin_in os) same) ∙ x.ends) y.leads)
  depth_once (suc a) zero p x y = let same : y.root ≡ p = cc (y.leads) in absurd (no_origin p a x.root (sym (ap (origin_in os) same) ∙ y.ends) x.leads)
  depth_once (suc a) (suc b) p x y = by (origin_in os p) refl (depth_once a b)
    where
      by : (o : Option Place) → origin_in os p ≡ o → ((o : Place) → HasDepth os o a → HasDepth os o b → a ≡ b) → suc a ≡ suc b
      by None is rest = absurd (no_origin p a x.root is x.leads)
      by (Some o) is rest = ap suc (rest o
          (record { root = x.root; leads = sym (ap (option_and_then (after_origins a os)) is) ∙ x.leads; ends = x.ends })
          (record { root = y.root; leads = sym (ap (option_and_then (after_origins b os)) is) ∙ y.leads; ends = y.ends }))

  -- a place one less deep to which origins lead is the origin
  one_up : (k : ℕ) (p q : Place) → LeadsTo os 1 p q → HasDepth os p (suc k) → HasDepth os q k → origin_in os p ≡ Some q
  one_up k p q to deep low = by to.origins to.leads (depth_once (to.origins + k) (suc k) p (depth_after to.origins k (to.origins + k) p q refl to.leads low) deep)
    where
      once : (o : Option Place) → option_and_then (after_origins zero os) o ≡ Some q → o ≡ Some q
      once None leads = absurd (cc leads)
      once (Some o) leads = leads

      by : (n : ℕ) → after_origins n os p ≡ Some q → n + k ≡ suc k → origin_in os p ≡ Some q
      by zero leads size = absurd (omega (arith, size))
      by (suc zero) leads size = once (origin_in os p) leads
      by (suc (suc n)) leads size = absurd (omega (arith, size))

  rootless : (p : Place) → HasDepth os p 0 → origin_in os p ≡ None
  rootless p depth = let same : depth.root ≡ p = cc (depth.leads) in sym (ap (origin_in os) same) ∙ depth.ends

-- ---- what stands before a node

depth_next : (most : ℕ) (ns : List Node) (i : ℕ) → are_depths most ns ≡ true → suc i < length ns → depth_of ns (suc i) ≤ depth_of ns i + 1
depth_next most [] i depths within = absurd (omega (arith, within))
depth_next most (n ∷ []) zero depths within = absurd (omega (arith, within))
depth_next most (n ∷ m ∷ ns) zero depths within =
    let parts = and_parts (nat_le n.depth most) (are_depths (n.depth + 1) (m ∷ ns)) depths in
    leb-true m.depth (n.depth + 1) (and_parts (nat_le m.depth (n.depth + 1)) (are_depths (m.depth + 1) ns) parts.1).0
depth_next most (n ∷ ns) (suc i) depths within =
    depth_next (n.depth + 1) ns i (and_parts (nat_le n.depth most) (are_depths (n.depth + 1) ns) depths).1 (omega (arith, within))

run_reaches : (depth : ℕ) (ns : List Node) (m : ℕ) → m < length ns → ((k : ℕ) → k ≤ m → depth < depth_of ns k) → m < run_len depth ns
run_reaches depth [] m within deep = absurd (omega (arith, within))
run_reaches depth (n ∷ ns) zero within deep = let here = deep zero (omega arith) in rw (lt-ltb depth n.depth here) (omega arith)
run_reaches depth (n ∷ ns) (suc m) within deep =
    let here = deep zero (omega arith) in
    let rest : m < run_len depth ns = run_reaches depth ns m (omega (arith, within)) (λ k upto. deep (suc k) (omega (arith, upto))) in
    rw (lt-ltb depth n.depth here) (omega (arith, rest))

run_at_reaches : (ns : List Node) (r i : ℕ) → r < i → i < length ns → ((k : ℕ) → r < k → k ≤ i → depth_of ns r < depth_of ns k) → i < r + 1 + run_at ns r
run_at_reaches [] r i less within deep = absurd (omega (arith, within))
run_at_reaches (n ∷ ns) r zero less within deep = absurd (omega (arith, less))
run_at_reaches (n ∷ ns) zero (suc i) less within deep =
    let rest = run_reaches n.depth ns i (omega (arith, within)) (λ k upto. deep (suc k) (omega arith) (omega (arith, upto))) in
    omega (arith, rest)
run_at_reaches (n ∷ ns) (suc r) (suc i) less within deep =
    let rest = run_at_reaches ns r i (omega (arith, less)) (omega (arith, within)) (λ k more upto. deep (suc k) (omega (arith, more)) (omega (arith, upto))) in
    omega (arith, rest)

-- the nearest node before this one that is less deep is its origin
pub nearest_is_origin : (ns : List Node) → is_forest ns ≡ true → (r i depth : ℕ) → r < i → i < length ns → depth ≡ depth_of ns i → depth_of ns r < depth
    → ((k : ℕ) → r < k → k < i → depth ≤ depth_of ns k)
    → (d : Place) → origin_in (origins_of ns) (place_at (origins_of ns) i d) ≡ Some (place_at (origins_of ns) r d)
nearest_is_origin ns forest r i depth less within is low between d =
    let depths = (and_parts (are_depths 0 ns) (are_distinct ns) forest).0 in
    let next = depth_next 0 ns r depths (omega (arith, less, within)) in
    let high : depth ≤ depth_of ns (suc r) = by_order in
    let one : depth_of ns i ≡ suc (depth_of ns r) = omega (arith, next, high, low, is) in
    let reaches = run_at_reaches ns r i less within deeper in
    let test : (nat_lt r i && nat_lt i (r + 1 + run_at ns r)) ≡ true = rw (lt-ltb r i less, lt-ltb i (r + 1 + run_at ns r) reaches) refl in
    let to = (forest_strict ns forest r i d (omega (arith, less, within)) within).0 test in
    let deep : HasDepth (origins_of ns) (place_of ns i d) (suc (depth_of ns r)) = subst (HasDepth (origins_of ns) (place_of ns i d)) one (forest_depth ns forest i d within) in
    let up = one_up (origins_of ns) (depth_of ns r) (place_of ns i d) (place_of ns r d) to deep (forest_depth ns forest r d (omega (arith, less, within))) in
    ap (origin_in (origins_of ns)) (place_at-links [] ns i d) ∙ up ∙ ap Some (sym (place_at-links [] ns r d))
  where
    split : (a b : ℕ) → a ≤ b → (a < b) ⊎ (a ≡ b)
    split a b upto = grind (arith, upto)

    high_at : (suc r < i) ⊎ (suc r ≡ i) → depth ≤ depth_of ns (suc r)
    high_at (inl more) = between (suc r) (omega arith) more
    high_at (inr same) = let e : depth ≡ depth_of ns (suc r) = is ∙ ap (depth_of ns) (sym same) in omega (arith, e)

    by_order : depth ≤ depth_of ns (suc r)
    by_order = high_at (split (suc r) i (omega (arith, less)))

    deeper_at : (k : ℕ) → r < k → (k < i) ⊎ (k ≡ i) → depth_of ns r < depth_of ns k
    deeper_at k more (inl less) = let h = between k more less in omega (arith, h, low)
    deeper_at k more (inr same) = let e : depth ≡ depth_of ns k = is ∙ ap (depth_of ns) (sym same) in omega (arith, e, low)

    deeper : (k : ℕ) → r < k → k ≤ i → depth_of ns r < depth_of ns k
    deeper k more upto = deeper_at k more (split k i upto)

-- a node of depth 0 has no origin
pub root_has_none : (ns : List Node) → is_forest ns ≡ true → (i : ℕ) → i < length ns → depth_of ns i ≡ 0 → (d : Place) → origin_in (origins_of ns) (place_at (origins_of ns) i d) ≡ None
root_has_none ns forest i within none d =
    ap (origin_in (origins_of ns)) (place_at-links [] ns i d) ∙ rootless (origins_of ns) (place_of ns i d) (subst (HasDepth (origins_of ns) (place_of ns i d)) none (forest_depth ns forest i d within))

-- the first node is a root
pub first_is_root : (ns : List Node) → is_forest ns ≡ true → 0 < length ns → depth_of ns 0 ≡ 0
first_is_root [] forest some = absurd (omega (arith, some))
first_is_root (n ∷ ns) forest some =
    let depths = (and_parts (are_depths 0 (n ∷ ns)) (are_distinct (n ∷ ns)) forest).0 in
    let low = leb-true n.depth 0 (and_parts (nat_le n.depth 0) (are_depths (n.depth + 1) ns) depths).0 in
    omega (arith, low)

-- none is less deep than a root
pub none_above_root : (ns : List Node) (depth : ℕ) → depth ≡ 0 → last_less depth ns ≡ None
none_above_root ns depth root = none_less depth 0 ns (omega (arith, root)) (least_zero ns)

-- where none behind the first is less deep, that is the last one
pub first_above : (ns : List Node) → is_forest ns ≡ true → (i depth least : ℕ) → i < length ns → depth ≡ depth_of ns i → 0 < depth → depth ≤ least → is_least least (drop 1 ns) ≡ true
    → last_less depth (take i ns) ≡ Some 0
first_above [] forest i depth least within is some low behind = absurd (omega (arith, within))
first_above (n ∷ ns) forest zero depth least within is some low behind = let root = first_is_root (n ∷ ns) forest within in absurd (omega (arith, root, is, some))
first_above (n ∷ ns) forest (suc i) depth least within is some low behind =
    let root = first_is_root (n ∷ ns) forest (omega arith) in
    let one : min (suc i) 1 ≡ suc 0 = omega arith in
    first_alone depth least (suc i) (n ∷ ns) low behind ∙ ap (λ m. last_less depth (take m (n ∷ ns))) one ∙ ap (λ b. one_on b None) (lt-ltb n.depth depth (omega (arith, root, some)))

-- ---- looking back

split_order : (a b : ℕ) → a ≤ b → (a ≡ b) ⊎ (a < b)
split_order a b upto = grind (arith, upto)

-- one more node that is not less deep
pub one_more_back : (ns : List Node) (j i depth : ℕ) → ((k : ℕ) → j ≤ k → k < i → depth ≤ depth_of ns k) → depth ≤ depth_of ns (j - 1)
    → (k : ℕ) → j - 1 ≤ k → k < i → depth ≤ depth_of ns k
one_more_back ns j i depth between here k more less = by (split_order (j - 1) k more)
  where
    by : (j - 1 ≡ k) ⊎ (j - 1 < k) → depth ≤ depth_of ns k
    by (inl same) = subst (λ m. depth ≤ depth_of ns m) same here
    by (inr after) = between k (omega (arith, after)) less

-- the nodes between
pub behind_back : (ns : List Node) (j i depth : ℕ) → ((k : ℕ) → j ≤ k → k < i → depth ≤ depth_of ns k)
    → (k : ℕ) → j - 1 < k → k < i → depth ≤ depth_of ns k
behind_back ns j i depth between k more less = between k (omega (arith, more)) less

-- not all nodes before one that is no root are as deep
pub never : (ns : List Node) → is_forest ns ≡ true → (i depth : ℕ) → i < length ns → depth ≡ depth_of ns i → (depth ≡ 0 → ⊥) → ((k : ℕ) → k < i → depth ≤ depth_of ns k) → ⊥
never ns forest zero depth within is some before = some (is ∙ first_is_root ns forest (omega (arith, within)))
never ns forest (suc i) depth within is some before =
    let first = first_is_root ns forest (omega (arith, within)) in
    let low = before 0 (omega arith) in
    some (omega (arith, first, low))
