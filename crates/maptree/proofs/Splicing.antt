-- Parts put back with nodes left out are the tree that was cut without them.
use Rattle.std.proofs.Common.{◌≡◌, ℕ, zero, suc, ◌-◌, ◌<◌, true, Bool, List, [], ◌∷◌, ◌++◌, length, drop, take, map, filter, Option, Some, None, refl, sym, ap, ◌∙◌, subst, arith}
use Rattle.std.specs.List.{list_all, slice_range}
use Rattle.std.specs.Option.{option_and_then}
use Rattle.std.proofs.lemmas.Bool.{and_parts}
use Rattle.std.proofs.lemmas.List.{drop-map}
use Rattle.std.proofs.lemmas.List.Elements.{filter-append}
use Rattle.space.specs.declared.place.Place.{Place}
use Rattle.space.specs.declared.node.Node.{Node}
use Rattle.space.specs.declared.slice.Slice.{Slice}
use Rattle.maptree.specs.Origins.{Origins, Shape, origin_in, after_origins, place_at, HasDepth}
use Rattle.maptree.specs.Nodes.{is_forest, links, origins_of}
use Rattle.space.specs.Slices.{nodes_of}
use Rattle.maptree.specs.Cuts.{kept_of, joined, AreKept}
use Rattle.maptree.proofs.Runs.{place_of, depth_of, forest_depth}
use Rattle.maptree.proofs.Positions.{length-links, place_at-links}
use Rattle.maptree.proofs.Keeping.{kept, kept_forest}
use Rattle.maptree.proofs.Outside.{AllAre, filter_all, map_slice, tests_links}

-- ---- a tree tells its nodes

-- a place has one number of origins
depth_unique : (os : Origins) (a b : ℕ) (p r s : Place) → after_origins a os p ≡ Some r → origin_in os r ≡ None → after_origins b os p ≡ Some s → origin_in os s ≡ None → a ≡ b
depth_unique os zero zero p r s to end to_s end_s = refl
depth_unique os zero (suc b) p r s to end to_s end_s = let same : Some p ≡ Some r = to in let here : p ≡ r = cc same in absurd (cc (ap (option_and_then (after_origins b os)) (ap (origin_in os) here ∙ end), to_s))
depth_unique os (suc a) zero p r s to end to_s end_s = let same : Some p ≡ Some s = to_s in let here : p ≡ s = cc same in absurd (cc (ap (option_and_then (after_origins a os)) (ap (origin_in os) here ∙ end_s), to))
depth_unique os (suc a) (suc b) p r s to end to_s end_s = by (origin_in os p) refl (depth_unique os a b)
  where
    by : (o : Option Place) → origin_in os p ≡ o → ((p r s : Place) → after_origins a os p ≡ Some r → origin_in os r ≡ None → after_origins b os p ≡ Some s → origin_in os s ≡ None → a ≡ b) → suc a ≡ suc b
    by None is rest = absurd (cc (ap (option_and_then (after_origins a os)) is, to))
    by (Some q) is rest = ap suc (rest q r s (sym (ap (option_and_then (after_origins a os)) is) ∙ to) end (sym (ap (option_and_then (after_origins b os)) is) ∙ to_s) end_s)

pub one_depth : (os : Origins) (p : Place) (a b : ℕ) → HasDepth os p a → HasDepth os p b → a ≡ b
one_depth os p a b x y = depth_unique os a b p x.root y.root x.leads x.ends y.leads y.ends

same_nodes : (ns ms : List Node) → length ns ≡ length ms → ((i : ℕ) (d : Place) → i < length ns → place_of ns i d ≡ place_of ms i d) → ((i : ℕ) → i < length ns → depth_of ns i ≡ depth_of ms i) → ns ≡ ms
same_nodes [] [] size places depths = refl
same_nodes [] (m ∷ ms) size places depths = absurd (omega (arith, size))
same_nodes (n ∷ ns) [] size places depths = absurd (omega (arith, size))
same_nodes (n ∷ ns) (m ∷ ms) size places depths =
    let place = places 0 n.place (omega arith) in
    let depth = depths 0 (omega arith) in
    let rest = same_nodes ns ms (omega (arith, size)) (λ i d within. places (suc i) d (omega (arith, within))) (λ i within. depths (suc i) (omega (arith, within))) in
    same_first n m place depth ∙ ap (λ xs. m ∷ xs) rest
  where
    same_first : (n m : Node) → n.place ≡ m.place → n.depth ≡ m.depth → n ∷ ns ≡ m ∷ ns
    same_first n m place depth = ap (λ p. (record { place = p; depth = n.depth }) ∷ ns) place ∙ ap (λ d. (record { place = m.place; depth = d }) ∷ ns) depth

-- forests of one tree have the same nodes
pub same_forest : (ns ms : List Node) → is_forest ns ≡ true → is_forest ms ≡ true → origins_of ns ≡ origins_of ms → ns ≡ ms
same_forest ns ms forest_n forest_m same =
    let size : length ns ≡ length ms = sym (length-links [] ns) ∙ ap length same ∙ length-links [] ms in
    let place : (i : ℕ) (d : Place) → i < length ns → place_of ns i d ≡ place_of ms i d = λ i d within. sym (place_at-links [] ns i d) ∙ ap (λ os. place_at os i d) same ∙ place_at-links [] ms i d in
    same_nodes ns ms size place (λ i within. depth i within (some_place ns i within) (place i))
  where
    some_place : (ns : List Node) (i : ℕ) → i < length ns → Place
    some_place [] i within = absurd (omega (arith, within))
    some_place (n ∷ ns) i within = n.place

    depth : (i : ℕ) → i < length ns → (d : Place) → ((d : Place) → i < length ns → place_of ns i d ≡ place_of ms i d) → depth_of ns i ≡ depth_of ms i
    depth i within d place =
        let within_m : i < length ms = omega (arith, within, sym (length-links [] ns) ∙ ap length same ∙ length-links [] ms) in
        let of_n = subst (λ p. HasDepth (origins_of ns) p (depth_of ns i)) (place d within) (forest_depth ns forest_n i d within) in
        let of_m = forest_depth ms forest_m i d within_m in
        one_depth (origins_of ms) (place_of ms i d) (depth_of ns i) (depth_of ms i) (subst (λ os. HasDepth os (place_of ms i d) (depth_of ns i)) same of_n) of_m

-- ---- what is kept of the parts

module _ (keep : Place → Bool) where
  all_true : (os : Origins) → list_all (λ o. keep o.0) os ≡ true → AllAre true (map (λ o. keep o.0) os)
  all_true [] all = tt
  all_true (o ∷ os) all = let parts = and_parts (keep o.0) (list_all (λ o. keep o.0) os) all in (parts.0, all_true os parts.1)

  all_drop : (k : ℕ) (xs : List Bool) → AllAre true xs → AllAre true (drop k xs)
  all_drop zero xs all = all
  all_drop (suc k) [] all = tt
  all_drop (suc k) (x ∷ xs) all = all_drop k xs all.1

  all_take : (k : ℕ) (xs : List Bool) → AllAre true xs → AllAre true (take k xs)
  all_take zero xs all = tt
  all_take (suc k) [] all = tt
  all_take (suc k) (x ∷ xs) all = (all.0, all_take k xs all.1)

  kept_rest : (from : ℕ) (left : List Node) → AllAre true (map (λ n. keep n.place) left) → kept keep (drop from left) ≡ drop from left
  kept_rest from left all = filter_all (λ n. keep n.place) (drop from left) (subst (AllAre true) (drop-map (λ n. keep n.place) from left) (all_drop from (map (λ n. keep n.place) left) all))

  kept_joined : (from : ℕ) (left : List Node) (gaps : List ℕ) (parts : List (List Node)) → AllAre true (map (λ n. keep n.place) left) → kept keep (joined from left gaps parts) ≡ joined from left gaps (kept_of keep parts)
  kept_joined from left [] parts all = kept_rest from left all
  kept_joined from left (gap ∷ gaps) [] all = kept_rest from left all
  kept_joined from left (gap ∷ gaps) (part ∷ parts) all =
      let here : kept keep (slice_range left from gap) ≡ slice_range left from gap =
      filter_all (λ n. keep n.place) (slice_range left from gap) (subst (AllAre true) (map_slice (λ n. keep n.place) from gap left) (all_take (gap - from) (drop from (map (λ n. keep n.place) left)) (all_drop from (map (λ n. keep n.place) left) all))) in
      filter-append (λ n. keep n.place) (slice_range left from gap ++ part) (joined gap left gaps parts)
      ∙ rw (filter-append (λ n. keep n.place) (slice_range left from gap) part, here, kept_joined gap left gaps parts all) refl

-- what is put back
pub record IsPutBack (nodes : List Node) (keep : Place → Bool) (whole : Origins) : Type 0 where
  pub forest : is_forest nodes ≡ true
  pub links : origins_of nodes ≡ filter (λ o. keep o.0) whole

pub put_back : (nodes : List Node) (tree : Shape) (parts : List Slice) → is_forest nodes ≡ true → origins_of nodes ≡ tree.links → (k : AreKept tree parts)
    → IsPutBack (joined 0 nodes tree.gaps (nodes_of parts)) k.keep k.whole
put_back nodes tree parts forest links k =
    let cut = k.cut in
    let same : nodes ≡ cut.left = same_forest nodes cut.left forest cut.forest (links ∙ cut.tree_is) in
    let all = subst (AllAre true) (tests_links k.keep [] nodes) (all_true k.keep (origins_of nodes) (ap (list_all (λ o. k.keep o.0)) links ∙ k.left)) in
    let whole : joined 0 nodes tree.gaps (nodes_of parts) ≡ kept k.keep (joined 0 cut.left tree.gaps k.given) =
    ap (joined 0 nodes tree.gaps) k.kept ∙ sym (kept_joined k.keep 0 nodes tree.gaps k.given all) ∙ ap (λ ns. kept k.keep (joined 0 ns tree.gaps k.given)) same in
    let says = kept_forest k.keep (joined 0 cut.left tree.gaps k.given) cut.whole (λ p o is. k.origins p o (ap (λ os. origin_in os p) cut.whole_is ∙ is)) in
    record {
      forest = ap is_forest whole ∙ says.0;
      links = ap origins_of whole ∙ says.1 ∙ ap (filter (λ o. k.keep o.0)) (sym cut.whole_is);
    }
