-- What derives from a node is the run of deeper nodes behind it.
use Rattle.std.proofs.Common.{◌≡◌, ℕ, zero, suc, ◌+◌, ◌-◌, ◌≤◌, ◌<◌, true, false, Bool, ◌&&◌, nat_lt, nat_le, List, [], ◌∷◌, ◌++◌, length, drop, Some, refl, sym, ap, ◌∙◌, subst, arith, ◌⊎◌, inl, inr, if◌then◌else◌}
use Rattle.std.specs.Prelude.{Decides}
use Rattle.std.proofs.lemmas.Bool.{and_parts, leb-true, ltb-true, ltb-false, lt-ltb, le-leb, le-ltb, lt-leb, cases_order}
use Rattle.std.proofs.lemmas.Bool.Decides.{nat_tests}
use Rattle.std.proofs.lemmas.List.{length-drop}
use Rattle.space.specs.declared.place.Place.{Place}
use Rattle.space.proofs.Places.{same_self}
use Rattle.space.specs.declared.node.Node.{Node}
use Rattle.std.specs.Option.{option_and_then}
use Rattle.maptree.specs.Origins.{Origins, origin_in, after_origins, LeadsTo, HasDepth}
use Rattle.maptree.specs.Nodes.{are_depths, is_new, are_distinct, is_forest, above, first, origins_of, run_len}
use Rattle.maptree.proofs.Paths.{In, IsChain, Agrees, HasPlace, agrees, new_apart, leads_path, in_leads, chain_drop}

-- ---- parts of paths

-- what the end of a path has, the path has
pub in_drop : (p : Place) (k : ℕ) (path : List Place) → In p (drop k path) → In p path
in_drop p zero path k = k
in_drop p (suc n) [] k = k
in_drop p (suc n) (q ∷ path) k = inr (in_drop p n path k)

in_back : (p : Place) (front back : List Place) → In p back → In p (front ++ back)
in_back p [] back k = k
in_back p (q ∷ front) back k = inr (in_back p front back k)

drop_front : (k : ℕ) (front back : List Place) → k ≤ length front → drop k (front ++ back) ≡ drop k front ++ back
drop_front zero front back upto = refl
drop_front (suc k) [] back upto = absurd (omega (arith, upto))
drop_front (suc k) (q ∷ front) back upto = drop_front k front back (omega (arith, upto))

drop_back : (k : ℕ) (front back : List Place) → length front ≤ k → drop k (front ++ back) ≡ drop (k - length front) back
drop_back k [] back upto = ap (λ n. drop n back) (omega arith)
drop_back zero (q ∷ front) back upto = absurd (omega (arith, upto))
drop_back (suc k) (q ∷ front) back upto = drop_back k front back (omega (arith, upto)) ∙ ap (λ n. drop n back) (omega arith)

length_front : (front back : List Place) → length (front ++ back) ≡ length front + length back
length_front [] back = omega arith
length_front (q ∷ front) back = let rest = length_front front back in omega (arith, rest)

-- ---- what derives from a node

-- the place of the node at a position
abbrev pub place_of : List Node → ℕ → Place → Place
place_of [] j d = d
place_of (n ∷ ns) zero d = n.place
place_of (n ∷ ns) (suc j) d = place_of ns j d

module _ (os : Origins) (p : Place) where
  -- behind a place that is not on the path nothing derives from it
  none_derives : (path : List Place) (ns : List Node) → (In p path → ⊥) → (HasPlace p ns → ⊥) → IsChain os path → Agrees os path ns
      → (j : ℕ) (d : Place) → j < length ns → LeadsTo os 1 (place_of ns j d) p → ⊥
  none_derives path [] out new chain agree j d within to = absurd (omega (arith, within))
  none_derives path (n ∷ ns) out new chain agree zero d within to =
      out (in_drop p (length path - n.depth) path (leads_path os n.place p (above n path) agree.0 (chain_drop os (length path - n.depth) path chain) to))
  none_derives path (n ∷ ns) out new chain agree (suc j) d within to =
      none_derives (n.place ∷ above n path) ns still (λ k. new (inr k)) (agree.0, chain_drop os (length path - n.depth) path chain) agree.1 j d (omega (arith, within)) to
    where
      still : In p (n.place ∷ above n path) → ⊥
      still (inl same) = new (inl same)
      still (inr k) = out (in_drop p (length path - n.depth) path k)

  -- behind the place, on the path: what is deeper derives from it, up to the first that is not
  module _ (up : List Place) (out : In p up → ⊥) where
    none_in_rest : (k : ℕ) → 0 < k → In p (drop k (p ∷ up)) → ⊥
    none_in_rest zero some k = absurd (omega (arith, some))
    none_in_rest (suc k) some there = out (in_drop p k up there)

    -- what is not deeper has another path
    not_above : (front : List Place) (n : Node) → n.depth ≤ length up → In p (above n (front ++ p ∷ up)) → ⊥
    not_above front n low there =
        let size = length_front front (p ∷ up) in
        let most : length front ≤ length (front ++ p ∷ up) - n.depth = omega (arith, size, low) in
        let some : 0 < length (front ++ p ∷ up) - n.depth - length front = omega (arith, size, low) in
        none_in_rest (length (front ++ p ∷ up) - n.depth - length front) some (subst (In p) (drop_back (length (front ++ p ∷ up) - n.depth) front (p ∷ up) most) there)

    -- what is deeper has the place on its path
    is_above : (front : List Place) (n : Node) → length up < n.depth → above n (front ++ p ∷ up) ≡ drop (length (front ++ p ∷ up) - n.depth) front ++ p ∷ up
    is_above front n deep =
        let size = length_front front (p ∷ up) in
        drop_front (length (front ++ p ∷ up) - n.depth) front (p ∷ up) (omega (arith, size, deep))

    derives : (front : List Place) (ns : List Node) (most : ℕ) → most ≡ length (front ++ p ∷ up) → (HasPlace p ns → ⊥) → IsChain os (front ++ p ∷ up) → Agrees os (front ++ p ∷ up) ns
        → are_depths most ns ≡ true → (j : ℕ) (d : Place) → j < length ns
        → Decides (nat_lt j (run_len (length up) ns)) (LeadsTo os 1 (place_of ns j d) p)
    derives front [] most size new chain agree depths j d within = absurd (omega (arith, within))
    derives front (n ∷ ns) most size new chain agree depths j d within =
        by (nat_lt (length up) n.depth) refl j within
        (λ deep j within. derives (n.place ∷ drop (length (front ++ p ∷ up) - n.depth) front) ns (n.depth + 1) (next_size deep) (λ k. new (inr k))
        (subst (λ path. IsChain os (n.place ∷ path)) (is_above front n deep) (agree.0, chain_drop os (length (front ++ p ∷ up) - n.depth) (front ++ p ∷ up) chain))
        (subst (λ path. Agrees os (n.place ∷ path) ns) (is_above front n deep) agree.1)
        parts.1 j d within)
      where
        parts : (nat_le n.depth most ≡ true) × (are_depths (n.depth + 1) ns ≡ true)
        parts = and_parts (nat_le n.depth most) (are_depths (n.depth + 1) ns) depths

        next_size : length up < n.depth → n.depth + 1 ≡ length ((n.place ∷ drop (length (front ++ p ∷ up) - n.depth) front) ++ p ∷ up)
        next_size deep =
            let whole = length_front front (p ∷ up) in
            let low = leb-true n.depth most parts.0 in
            let back = length_front (drop (length (front ++ p ∷ up) - n.depth) front) (p ∷ up) in
            let dropped = length-drop (length (front ++ p ∷ up) - n.depth) front in
            omega (arith, whole, low, back, dropped, size, deep)

        one_more : (j r : ℕ) → nat_lt (suc j) (1 + r) ≡ nat_lt j r
        one_more j r = grind (arith, nat_tests)

        by : (b : Bool) → nat_lt (length up) n.depth ≡ b → (j : ℕ) → j < length (n ∷ ns)
            → (length up < n.depth → (j : ℕ) → j < length ns → Decides (nat_lt j (run_len (length up) ns)) (LeadsTo os 1 (place_of ns j d) p))
            → Decides (nat_lt j (if nat_lt (length up) n.depth then 1 + run_len (length up) ns else 0)) (LeadsTo os 1 (place_of (n ∷ ns) j d) p)
        by true is zero within rest =
            let deep = ltb-true (length up) n.depth is in
            let here : In p (above n (front ++ p ∷ up)) = subst (In p) (sym (is_above front n deep)) (in_back p (drop (length (front ++ p ∷ up) - n.depth) front) (p ∷ up) (inl refl)) in
            let some : nat_lt 0 (1 + run_len (length up) ns) ≡ true = grind (arith, nat_tests) in
            rw is ((λ _. in_leads os n.place p (above n (front ++ p ∷ up)) agree.0 (chain_drop os (length (front ++ p ∷ up) - n.depth) (front ++ p ∷ up) chain) here), λ _. some)
        by true is (suc j) within rest =
            let deep = ltb-true (length up) n.depth is in
            let r = rest deep j (omega (arith, within)) in
            rw (is, one_more j (run_len (length up) ns)) r
        by false is zero within rest =
            let low = ltb-false (length up) n.depth is in
            rw is ((λ none. absurd (cc none)), λ to. absurd (not_above front n low (leads_path os n.place p (above n (front ++ p ∷ up)) agree.0 (chain_drop os (length (front ++ p ∷ up) - n.depth) (front ++ p ∷ up) chain) to)))
        by false is (suc j) within rest =
            let low = ltb-false (length up) n.depth is in
            rw is (
              (λ none. absurd (omega (arith, ltb-true (suc j) 0 none))),
              λ to. absurd (none_derives (n.place ∷ above n (front ++ p ∷ up)) ns (not_next low) (λ k. new (inr k))
                  (agree.0, chain_drop os (length (front ++ p ∷ up) - n.depth) (front ++ p ∷ up) chain) agree.1 j d (omega (arith, within)) to),
            )
          where
            not_next : n.depth ≤ length up → In p (n.place ∷ above n (front ++ p ∷ up)) → ⊥
            not_next low (inl same) = new (inl same)
            not_next low (inr k) = not_above front n low k

-- ---- by positions

-- the depth of the node at a position
abbrev pub depth_of : List Node → ℕ → ℕ
depth_of [] i = 0
depth_of (n ∷ ns) zero = n.depth
depth_of (n ∷ ns) (suc i) = depth_of ns i

-- how many nodes behind the one at a position derive from it
abbrev pub run_at : List Node → ℕ → ℕ
run_at [] i = 0
run_at (n ∷ ns) zero = run_len n.depth ns
run_at (n ∷ ns) (suc i) = run_at ns i

-- no node of the list is on the path
abbrev IsApart : List Place → List Node → Type 0
IsApart path ns = (p : Place) → In p path → HasPlace p ns → ⊥

-- the place at a position is there
pub has_place : (ns : List Node) (j : ℕ) (d : Place) → j < length ns → HasPlace (place_of ns j d) ns
has_place [] j d within = absurd (omega (arith, within))
has_place (n ∷ ns) zero d within = inl refl
has_place (n ∷ ns) (suc j) d within = inr (has_place ns j d (omega (arith, within)))

module _ (os : Origins) where
  leads_more : (p q : Place) → LeadsTo os 1 p q → LeadsTo os 0 p q
  leads_more p q to = record { origins = to.origins; enough = omega arith; leads = to.leads }

  -- a chain to another place has an origin
  leads_some : (p q : Place) → (p ≡ q → ⊥) → LeadsTo os 0 p q → LeadsTo os 1 p q
  leads_some p q apart to = by to.origins to.leads
    where
      by : (n : ℕ) → after_origins n os p ≡ Some q → LeadsTo os 1 p q
      by zero leads = absurd (apart (cc leads))
      by (suc n) leads = record { origins = suc n; enough = omega arith; leads = leads }

  distinct_apart : (n : Node) (ns : List Node) → is_new n.place ns ≡ true → HasPlace n.place ns → ⊥
  distinct_apart n ns new k = cc (new_apart n.place n.place ns new k, same_self n.place)

  -- a node derives from the node at a position, or is it, exactly where it stands in that node's run
  pub in_run : (path : List Place) (ns : List Node) (most : ℕ) → most ≡ length path → IsChain os path → Agrees os path ns → IsApart path ns → are_depths most ns ≡ true → are_distinct ns ≡ true
      → (i j : ℕ) (d : Place) → i < length ns → j < length ns
      → Decides (nat_le i j && nat_lt j (i + 1 + run_at ns i)) (LeadsTo os 0 (place_of ns j d) (place_of ns i d))
  in_run path [] most size chain agree apart depths distinct i j d within_i within_j = absurd (omega (arith, within_i))
  in_run path (n ∷ ns) most size chain agree apart depths distinct zero zero d within_i within_j =
      let here : (nat_le 0 0 && nat_lt 0 (0 + 1 + run_at (n ∷ ns) zero)) ≡ true = grind (arith, nat_tests) in
      ((λ _. record { origins = 0; enough = omega arith; leads = refl }), λ _. here)
  in_run path (n ∷ ns) most size chain agree apart depths distinct zero (suc j) d within_i within_j =
      let low = and_parts (nat_le n.depth most) (are_depths (n.depth + 1) ns) depths in
      let new = and_parts (is_new n.place ns) (are_distinct ns) distinct in
      let fits = leb-true n.depth most low.0 in
      let dropped = length-drop (length path - n.depth) path in
      let deep : length (above n path) ≡ n.depth = omega (arith, fits, size, dropped) in
      let next : n.depth + 1 ≡ length (n.place ∷ above n path) = omega (arith, deep) in
      let run = derives os n.place (above n path) (λ k. apart n.place (in_drop n.place (length path - n.depth) path k) (inl refl)) [] ns (n.depth + 1) next (distinct_apart n ns new.0)
      (agree.0, chain_drop os (length path - n.depth) path chain) agree.1 low.1 j d (omega (arith, within_j)) in
      let same : (nat_le 0 (suc j) && nat_lt (suc j) (0 + 1 + run_len n.depth ns)) ≡ nat_lt j (run_len (length (above n path)) ns) = first_test j (run_len n.depth ns) ∙ ap (λ x. nat_lt j (run_len x ns)) (sym deep) in
      ((λ is. leads_more (place_of ns j d) n.place (run.0 (sym same ∙ is))), λ to. same ∙ run.1 (leads_some (place_of ns j d) n.place (other new.0) to))
    where
      first_test : (j r : ℕ) → (nat_le 0 (suc j) && nat_lt (suc j) (0 + 1 + r)) ≡ nat_lt j r
      first_test j r = grind (arith, nat_tests)

      other : is_new n.place ns ≡ true → place_of ns j d ≡ n.place → ⊥
      other new same = distinct_apart n ns new (subst (λ p. HasPlace p ns) same (has_place ns j d (omega (arith, within_j))))
  in_run path (n ∷ ns) most size chain agree apart depths distinct (suc i) zero d within_i within_j =
      let new = and_parts (is_new n.place ns) (are_distinct ns) distinct in
      ((λ is. absurd (cc (is, no_test i (suc i + 1 + run_at ns i)))), λ to. absurd (no_chain new.0 (leads_some n.place (place_of ns i d) (other new.0) to)))
    where
      there : HasPlace (place_of ns i d) ns
      there = has_place ns i d (omega (arith, within_i))

      no_test : (i r : ℕ) → (nat_le (suc i) 0 && nat_lt 0 r) ≡ false
      no_test i r = grind (arith, nat_tests)

      other : is_new n.place ns ≡ true → n.place ≡ place_of ns i d → ⊥
      other new same = distinct_apart n ns new (subst (λ p. HasPlace p ns) (sym same) there)

      no_chain : is_new n.place ns ≡ true → LeadsTo os 1 n.place (place_of ns i d) → ⊥
      no_chain new to =
          apart (place_of ns i d) (in_drop (place_of ns i d) (length path - n.depth) path
          (leads_path os n.place (place_of ns i d) (above n path) agree.0 (chain_drop os (length path - n.depth) path chain) to)) (inr there)
  in_run path (n ∷ ns) most size chain agree apart depths distinct (suc i) (suc j) d within_i within_j =
      let low = and_parts (nat_le n.depth most) (are_depths (n.depth + 1) ns) depths in
      let new = and_parts (is_new n.place ns) (are_distinct ns) distinct in
      let fits = leb-true n.depth most low.0 in
      let dropped = length-drop (length path - n.depth) path in
      let next : n.depth + 1 ≡ length (n.place ∷ above n path) = omega (arith, fits, size, dropped) in
      let rest = in_run (n.place ∷ above n path) ns (n.depth + 1) next (agree.0, chain_drop os (length path - n.depth) path chain) agree.1 (still new.0) low.1 new.1 i j d (omega (arith, within_i)) (omega (arith, within_j)) in
      rw (next_test i j (run_at ns i)) rest
    where
      next_test : (i j r : ℕ) → (nat_le (suc i) (suc j) && nat_lt (suc j) (suc i + 1 + r)) ≡ (nat_le i j && nat_lt j (i + 1 + r))
      next_test i j r = grind (arith, nat_tests)

      still : is_new n.place ns ≡ true → IsApart (n.place ∷ above n path) ns
      still new p (inl same) k = distinct_apart n ns new (subst (λ q. HasPlace q ns) same k)
      still new p (inr there) k = apart p (in_drop p (length path - n.depth) path there) (inr k)

-- in a forest
pub forest_run : (ns : List Node) → is_forest ns ≡ true → (i j : ℕ) (d : Place) → i < length ns → j < length ns
    → Decides (nat_le i j && nat_lt j (i + 1 + run_at ns i)) (LeadsTo (origins_of ns) 0 (place_of ns j d) (place_of ns i d))
forest_run ns forest i j d within_i within_j =
    let parts = and_parts (are_depths 0 ns) (are_distinct ns) forest in
    in_run (origins_of ns) [] ns 0 refl tt (agrees (origins_of ns) [] ns parts.1 (λ p k. refl)) (λ p none k. none) parts.0 parts.1 i j d within_i within_j

-- ---- what is known of one node

-- the path of a node: its origins, nearest first
pub record HasPath (os : Origins) (p : Place) (depth : ℕ) : Type 0 where
  pub path : List Place
  pub size : length path ≡ depth
  pub from : origin_in os p ≡ first path
  pub chain : IsChain os path
  pub apart : In p path → ⊥

module _ (os : Origins) where
  -- each node has a path
  pub path_of : (path : List Place) (ns : List Node) (most : ℕ) → most ≡ length path → IsChain os path → Agrees os path ns → IsApart path ns → are_depths most ns ≡ true → are_distinct ns ≡ true
      → (i : ℕ) (d : Place) → i < length ns → HasPath os (place_of ns i d) (depth_of ns i)
  path_of path [] most size chain agree apart depths distinct i d within = absurd (omega (arith, within))
  path_of path (n ∷ ns) most size chain agree apart depths distinct zero d within =
      let low = and_parts (nat_le n.depth most) (are_depths (n.depth + 1) ns) depths in
      let fits = leb-true n.depth most low.0 in
      let dropped = length-drop (length path - n.depth) path in
      record {
        path = above n path;
        size = omega (arith, fits, size, dropped);
        from = agree.0;
        chain = chain_drop os (length path - n.depth) path chain;
        apart = λ k. apart n.place (in_drop n.place (length path - n.depth) path k) (inl refl);
      }
  path_of path (n ∷ ns) most size chain agree apart depths distinct (suc i) d within =
      let low = and_parts (nat_le n.depth most) (are_depths (n.depth + 1) ns) depths in
      let new = and_parts (is_new n.place ns) (are_distinct ns) distinct in
      let fits = leb-true n.depth most low.0 in
      let dropped = length-drop (length path - n.depth) path in
      let next : n.depth + 1 ≡ length (n.place ∷ above n path) = omega (arith, fits, size, dropped) in
      path_of (n.place ∷ above n path) ns (n.depth + 1) next (agree.0, chain_drop os (length path - n.depth) path chain) agree.1 (still new.0) low.1 new.1 i d (omega (arith, within))
    where
      still : is_new n.place ns ≡ true → IsApart (n.place ∷ above n path) ns
      still new p (inl same) k = distinct_apart os n ns new (subst (λ q. HasPlace q ns) same k)
      still new p (inr there) k = apart p (in_drop p (length path - n.depth) path there) (inr k)

  -- the last place of a path is a root
  depth_from : (p : Place) (path : List Place) → origin_in os p ≡ first path → IsChain os path → HasDepth os p (length path)
  depth_from p [] from chain = record { root = p; leads = refl; ends = from }
  depth_from p (o ∷ path) from chain =
      let rest = depth_from o path chain.0 chain.1 in
      record { root = rest.root; leads = ap (option_and_then (after_origins (length path) os)) from ∙ rest.leads; ends = rest.ends }

  path_depth : (p : Place) (depth : ℕ) → HasPath os p depth → HasDepth os p depth
  path_depth p depth h = subst (HasDepth os p) h.size (depth_from p h.path h.from h.chain)

  -- no node derives from itself
  path_apart : (p : Place) (depth : ℕ) → HasPath os p depth → LeadsTo os 1 p p → ⊥
  path_apart p depth h to = h.apart (leads_path os p p h.path h.from h.chain to)

module _ (ns : List Node) (forest : is_forest ns ≡ true) (i : ℕ) (d : Place) (within : i < length ns) where
  forest_path : HasPath (origins_of ns) (place_of ns i d) (depth_of ns i)
  forest_path =
      let parts = and_parts (are_depths 0 ns) (are_distinct ns) forest in
      path_of (origins_of ns) [] ns 0 refl tt (agrees (origins_of ns) [] ns parts.1 (λ p k. refl)) (λ p none k. none) parts.0 parts.1 i d within

  -- the place of a node has as many origins as its depth says
  pub forest_depth : HasDepth (origins_of ns) (place_of ns i d) (depth_of ns i)
  forest_depth = path_depth (origins_of ns) (place_of ns i d) (depth_of ns i) forest_path

  -- no node of a forest derives from itself
  pub not_from_itself : LeadsTo (origins_of ns) 1 (place_of ns i d) (place_of ns i d) → ⊥
  not_from_itself to = path_apart (origins_of ns) (place_of ns i d) (depth_of ns i) forest_path to

-- no two nodes have one place
pub distinct_places : (ns : List Node) → are_distinct ns ≡ true → (i j : ℕ) (d : Place) → i < j → j < length ns → place_of ns j d ≡ place_of ns i d → ⊥
distinct_places [] distinct i j d less within same = absurd (omega (arith, within))
distinct_places (n ∷ ns) distinct i zero d less within same = absurd (omega (arith, less))
distinct_places (n ∷ ns) distinct zero (suc j) d less within same =
    let parts = and_parts (is_new n.place ns) (are_distinct ns) distinct in
    distinct_apart [] n ns parts.0 (subst (λ p. HasPlace p ns) same (has_place ns j d (omega (arith, within))))
distinct_places (n ∷ ns) distinct (suc i) (suc j) d less within same =
    let parts = and_parts (is_new n.place ns) (are_distinct ns) distinct in
    distinct_places ns parts.1 i j d (omega (arith, less)) (omega (arith, within)) same

-- a node derives from another exactly where it stands behind it in its run
pub forest_strict : (ns : List Node) → is_forest ns ≡ true → (i j : ℕ) (d : Place) → i < length ns → j < length ns
    → Decides (nat_lt i j && nat_lt j (i + 1 + run_at ns i)) (LeadsTo (origins_of ns) 1 (place_of ns j d) (place_of ns i d))
forest_strict ns forest i j d within_i within_j = by (cases_order i j)
  where
    run : Decides (nat_le i j && nat_lt j (i + 1 + run_at ns i)) (LeadsTo (origins_of ns) 0 (place_of ns j d) (place_of ns i d))
    run = forest_run ns forest i j d within_i within_j

    behind : (i j : ℕ) (x : Bool) → i < j → (nat_lt i j && x) ≡ (nat_le i j && x)
    behind i j x less = rw (lt-ltb i j less, le-leb i j (omega (arith, less))) refl

    before : (i j : ℕ) (x : Bool) → j < i → (nat_lt i j && x) ≡ false
    before i j x less = rw (le-ltb i j (omega (arith, less))) refl

    not_run : (i j : ℕ) (x : Bool) → j < i → (nat_le i j && x) ≡ false
    not_run i j x less = rw (lt-leb i j less) refl

    same_place : (i : ℕ) (x : Bool) → (nat_lt i i && x) ≡ false
    same_place i x = rw (le-ltb i i (omega arith)) refl

    by : (i ≡ j) ⊎ ((i < j) ⊎ (j < i)) → Decides (nat_lt i j && nat_lt j (i + 1 + run_at ns i)) (LeadsTo (origins_of ns) 1 (place_of ns j d) (place_of ns i d))
    by (inl same) =
        subst (λ k. Decides (nat_lt i k && nat_lt k (i + 1 + run_at ns i)) (LeadsTo (origins_of ns) 1 (place_of ns k d) (place_of ns i d))) same
        ((λ is. absurd (cc (is, same_place i (nat_lt i (i + 1 + run_at ns i))))), λ to. absurd (not_from_itself ns forest i d within_i to))
    by (inr (inl less)) =
        let e = behind i j (nat_lt j (i + 1 + run_at ns i)) less in
        ((λ is. leads_some (origins_of ns) (place_of ns j d) (place_of ns i d) (distinct_places ns (and_parts (are_depths 0 ns) (are_distinct ns) forest).1 i j d less within_j) (run.0 (sym e ∙ is))), λ to. e ∙ run.1 (leads_more (origins_of ns) (place_of ns j d) (place_of ns i d) to))
    by (inr (inr less)) = (
      (λ is. absurd (cc (is, before i j (nat_lt j (i + 1 + run_at ns i)) less))),
      λ to. absurd (cc (run.1 (leads_more (origins_of ns) (place_of ns j d) (place_of ns i d) to), not_run i j (nat_lt j (i + 1 + run_at ns i)) less)),
    )
