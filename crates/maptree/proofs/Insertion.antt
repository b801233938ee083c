-- A node put right behind another, one deeper, derives from it.
use Rattle.std.proofs.Common.{◌≡◌, ℕ, zero, suc, ◌+◌, ◌-◌, ◌<◌, ◌≤◌, true, false, Bool, not, nat_le, List, [], ◌∷◌, length, drop, get_or, Some, None, refl, sym, ap, ◌∙◌, subst, arith}
use Rattle.std.specs.Prelude.{insert, position}
use Rattle.std.proofs.lemmas.Bool.{and_parts, leb-true, le-leb}
use Rattle.std.proofs.lemmas.List.{length-drop, get_or_default}
use Rattle.space.specs.declared.place.Place.{Place}
use Rattle.space.specs.Place.{same_place}
use Rattle.space.proofs.Places.{apart_back}
use Rattle.space.specs.declared.node.Node.{Node}
use Rattle.maptree.specs.Origins.{place_at}
use Rattle.maptree.specs.Nodes.{are_depths, is_new, are_distinct, is_forest, above, first, links, origins_of}
use Rattle.maptree.proofs.Runs.{place_of, depth_of}
use Rattle.maptree.proofs.Positions.{place_at-links, depth_of_read}
use Rattle.maptree.proofs.Renaming.{new_from_position}

not_true : (b : Bool) → not b ≡ true → b ≡ false
not_true b is = grind (arith, is)

-- one more place on the path, deeper than all that follows, changes nothing
above_more : (q : Place) (path : List Place) (n : Node) → n.depth ≤ length path → above n (q ∷ path) ≡ above n path
above_more q path n low =
    let size : length (q ∷ path) - n.depth ≡ suc (length path - n.depth) = omega (arith, low) in
    ap (λ k. drop k (q ∷ path)) size

pub links_more : (q : Place) (path : List Place) (ns : List Node) → are_depths (length path) ns ≡ true → links (q ∷ path) ns ≡ links path ns
links_more q path [] depths = refl
links_more q path (n ∷ ns) depths =
    let low = leb-true n.depth (length path) (and_parts (nat_le n.depth (length path)) (are_depths (n.depth + 1) ns) depths).0 in
    ap (λ up. (n.place, first up) ∷ links (n.place ∷ up) ns) (above_more q path n low)

-- the node one deeper
abbrev pub below_node : Place → ℕ → Node
below_node q depth = record { place = q; depth = depth + 1 }

links_below : (q : Place) (path : List Place) (ns : List Node) (i : ℕ) (d : Place) (most : ℕ) → most ≡ length path → are_depths most ns ≡ true → i < length ns
    → links path (insert ns (suc i) (below_node q (depth_of ns i))) ≡ insert (links path ns) (suc i) (q, Some (place_of ns i d))
links_below q path [] i d most size depths within = absurd (omega (arith, within))
links_below q path (n ∷ ns) zero d most size depths within =
    let parts = and_parts (nat_le n.depth most) (are_depths (n.depth + 1) ns) depths in
    let low = leb-true n.depth most parts.0 in
    let dropped = length-drop (length path - n.depth) path in
    let next : n.depth + 1 ≡ length (n.place ∷ above n path) = omega (arith, low, size, dropped) in
    let none : length (n.place ∷ above n path) - (n.depth + 1) ≡ 0 = omega (arith, next) in
    let up : above (below_node q n.depth) (n.place ∷ above n path) ≡ n.place ∷ above n path = ap (λ k. drop k (n.place ∷ above n path)) none in
    let rest = links_more q (n.place ∷ above n path) ns (subst (λ k. are_depths k ns ≡ true) next parts.1) in
    ap (λ x. (n.place, first (above n path)) ∷ (q, first x) ∷ links (q ∷ x) ns) up ∙ ap (λ l. (n.place, first (above n path)) ∷ (q, Some n.place) ∷ l) rest
links_below q path (n ∷ ns) (suc i) d most size depths within =
    let parts = and_parts (nat_le n.depth most) (are_depths (n.depth + 1) ns) depths in
    let low = leb-true n.depth most parts.0 in
    let dropped = length-drop (length path - n.depth) path in
    let next : n.depth + 1 ≡ length (n.place ∷ above n path) = omega (arith, low, size, dropped) in
    ap (λ l. (n.place, first (above n path)) ∷ l) (links_below q (n.place ∷ above n path) ns i d (n.depth + 1) next parts.1 (omega (arith, within)))

-- ---- a forest again

pub depths_more : (a b : ℕ) (ns : List Node) → a ≤ b → are_depths a ns ≡ true → are_depths b ns ≡ true
depths_more a b [] upto depths = refl
depths_more a b (n ∷ ns) upto depths =
    let parts = and_parts (nat_le n.depth a) (are_depths (n.depth + 1) ns) depths in
    let low = leb-true n.depth a parts.0 in
    rw (le-leb n.depth b (omega (arith, low, upto))) parts.1

depths_below : (q : Place) (most : ℕ) (ns : List Node) (i : ℕ) → are_depths most ns ≡ true → i < length ns → are_depths most (insert ns (suc i) (below_node q (depth_of ns i))) ≡ true
depths_below q most [] i depths within = absurd (omega (arith, within))
depths_below q most (n ∷ ns) zero depths within =
    let parts = and_parts (nat_le n.depth most) (are_depths (n.depth + 1) ns) depths in
    let rest = depths_more (n.depth + 1) (n.depth + 1 + 1) ns (omega arith) parts.1 in
    rw (parts.0, le-leb (n.depth + 1) (n.depth + 1) (omega arith)) rest
depths_below q most (n ∷ ns) (suc i) depths within =
    let parts = and_parts (nat_le n.depth most) (are_depths (n.depth + 1) ns) depths in
    rw (parts.0) (depths_below q (n.depth + 1) ns i parts.1 (omega (arith, within)))

new_below : (p q : Place) (k : ℕ) (depth : ℕ) (ns : List Node) → is_new p ns ≡ true → same_place p q ≡ false → is_new p (insert ns k (record { place = q; depth = depth })) ≡ true
new_below p q zero depth ns new apart = rw (apart) new
new_below p q (suc k) depth [] new apart = rw (apart) refl
new_below p q (suc k) depth (n ∷ ns) new apart =
    let parts = and_parts (not (same_place p n.place)) (is_new p ns) new in
    rw (parts.0) (new_below p q k depth ns parts.1 apart)

distinct_below : (q : Place) (k : ℕ) (depth : ℕ) (ns : List Node) → are_distinct ns ≡ true → is_new q ns ≡ true → are_distinct (insert ns k (record { place = q; depth = depth })) ≡ true
distinct_below q zero depth ns distinct new = rw (new) distinct
distinct_below q (suc k) depth [] distinct new = refl
distinct_below q (suc k) depth (n ∷ ns) distinct new =
    let parts = and_parts (is_new n.place ns) (are_distinct ns) distinct in
    let there = and_parts (not (same_place q n.place)) (is_new q ns) new in
    let head = new_below n.place q k depth ns parts.0 (apart_back q n.place (not_true (same_place q n.place) there.0)) in
    rw (head) (distinct_below q k depth ns parts.1 there.1)

-- the tree with a node put below another
pub links_of_below : (q : Place) (ns : List Node) (i : ℕ) (d : Place) → is_forest ns ≡ true → i < length ns
    → origins_of (insert ns (suc i) (below_node q (depth_of ns i))) ≡ insert (origins_of ns) (suc i) (q, Some (place_of ns i d))
links_of_below q ns i d forest within = links_below q [] ns i d 0 refl (and_parts (are_depths 0 ns) (are_distinct ns) forest).0 within

-- it is a forest again
pub forest_of_below : (q : Place) (ns : List Node) (i : ℕ) → is_forest ns ≡ true → is_new q ns ≡ true → i < length ns
    → is_forest (insert ns (suc i) (below_node q (depth_of ns i))) ≡ true
forest_of_below q ns i forest new within =
    let parts = and_parts (are_depths 0 ns) (are_distinct ns) forest in
    let depths = depths_below q 0 ns i parts.0 within in
    let distinct = distinct_below q (suc i) (depth_of ns i + 1) ns parts.1 new in
    rw (depths, distinct) refl

-- a node is no deeper than its position
pub depth_upto : (ns : List Node) (i : ℕ) → is_forest ns ≡ true → i < length ns → depth_of ns i ≤ i
depth_upto ns i forest within = let e = upto 0 ns i (and_parts (are_depths 0 ns) (are_distinct ns) forest).0 within in omega (arith, e)
  where
    upto : (most : ℕ) (ns : List Node) (i : ℕ) → are_depths most ns ≡ true → i < length ns → depth_of ns i ≤ most + i
    upto most [] i depths within = absurd (omega (arith, within))
    upto most (n ∷ ns) zero depths within = let low = leb-true n.depth most (and_parts (nat_le n.depth most) (are_depths (n.depth + 1) ns) depths).0 in omega (arith, low)
    upto most (n ∷ ns) (suc i) depths within =
        let parts = and_parts (nat_le n.depth most) (are_depths (n.depth + 1) ns) depths in
        let low = leb-true n.depth most parts.0 in
        let rest = upto (n.depth + 1) ns i parts.1 (omega (arith, within)) in
        omega (arith, low, rest)

-- the tree after a node has been put below another
pub below_says : (q : Place) (ns : List Node) (i : ℕ) (n : Node) → is_forest ns ≡ true → i < length ns → n ≡ get_or ns i n → (d : Place)
    → origins_of (insert ns (i + 1) (below_node q n.depth)) ≡ insert (origins_of ns) (i + 1) (q, Some (place_at (origins_of ns) i d))
below_says q ns i n forest within is d =
    let one : i + 1 ≡ suc i = omega arith in
    let depth : n.depth ≡ depth_of ns i = ap (λ m. m.depth) is ∙ sym (depth_of_read ns i n within) in
    let place = place_at-links [] ns i d in
    ap (λ k. origins_of (insert ns k (below_node q n.depth))) one ∙ ap (λ k. origins_of (insert ns (suc i) (below_node q k))) depth
    ∙ links_of_below q ns i d forest within ∙ ap (λ k. insert (origins_of ns) k (q, Some (place_of ns i d))) (sym one)
    ∙ ap (λ p. insert (origins_of ns) (i + 1) (q, Some p)) (sym place)

-- it is a forest again
pub below_forest : (q : Place) (ns : List Node) (i : ℕ) (n : Node) → is_forest ns ≡ true → position (λ o. same_place q o.0) (origins_of ns) ≡ None → i < length ns → n ≡ get_or ns i n
    → is_forest (insert ns (i + 1) (below_node q n.depth)) ≡ true
below_forest q ns i n forest new within is =
    let one : i + 1 ≡ suc i = omega arith in
    let depth : n.depth ≡ depth_of ns i = ap (λ m. m.depth) is ∙ sym (depth_of_read ns i n within) in
    ap (λ k. is_forest (insert ns k (below_node q n.depth))) one ∙ ap (λ k. is_forest (insert ns (suc i) (below_node q k))) depth
    ∙ forest_of_below q ns i forest (new_from_position q ns new) within

-- the same of the node that is read there
pub read_says : (q : Place) (ns : List Node) (i : ℕ) (e : Node) → is_forest ns ≡ true → i < length ns → (d : Place)
    → origins_of (insert ns (i + 1) (below_node q (get_or ns i e).depth)) ≡ insert (origins_of ns) (i + 1) (q, Some (place_at (origins_of ns) i d))
read_says q ns i e forest within d = below_says q ns i (get_or ns i e) forest within (get_or_default ns i e (get_or ns i e) within) d

pub read_forest : (q : Place) (ns : List Node) (i : ℕ) (e : Node) → is_forest ns ≡ true → position (λ o. same_place q o.0) (origins_of ns) ≡ None → i < length ns
    → is_forest (insert ns (i + 1) (below_node q (get_or ns i e).depth)) ≡ true
read_forest q ns i e forest new within = below_forest q ns i (get_or ns i e) forest new within (get_or_default ns i e (get_or ns i e) within)

-- a node's depth is no more than its position
pub depth_fits : (ns : List Node) (i : ℕ) (n : Node) → is_forest ns ≡ true → i < length ns → n ≡ get_or ns i n → n.depth ≤ i
depth_fits ns i n forest within is =
    let low = depth_upto ns i forest within in
    let depth : n.depth ≡ depth_of ns i = ap (λ m. m.depth) is ∙ sym (depth_of_read ns i n within) in
    omega (arith, low, depth)
