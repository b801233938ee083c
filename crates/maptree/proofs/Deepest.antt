-- A number that no depth of some nodes goes above, and what it says of fans.
use Rattle.std.proofs.Common.{◌≡◌, ℕ, zero, suc, ◌<◌, ◌≤◌, true, Bool, ◌&&◌, nat_le, List, [], ◌∷◌, ◌++◌, length, take, drop, set, get_or, Option, Some, refl, sym, ap, arith}
use Rattle.std.specs.Prelude.{insert}
use Rattle.std.proofs.lemmas.Bool.{and_parts, leb-true, le-leb}
use Rattle.space.specs.declared.place.Place.{Place}
use Rattle.space.specs.declared.node.Node.{Node}
use Rattle.maptree.specs.Nodes.{is_forest, origin_at}
use Rattle.maptree.specs.Blocks.{is_least, is_most, IsFan}
use Rattle.maptree.specs.Renamings.{nodes_renamed}
use Rattle.maptree.proofs.Runs.{depth_of}
use Rattle.maptree.proofs.Positions.{depth_of_read}
use Rattle.maptree.proofs.Origin.{first_above}

both : (a b : Bool) → a ≡ true → b ≡ true → (a && b) ≡ true
both a b is_a is_b = rw (is_a, is_b) refl

-- more is no less
pub most_more : (a b : ℕ) (ns : List Node) → a ≤ b → is_most a ns ≡ true → is_most b ns ≡ true
most_more a b [] upto most = refl
most_more a b (n ∷ ns) upto most =
    let parts = and_parts (nat_le n.depth a) (is_most a ns) most in
    let low = leb-true n.depth a parts.0 in
    both (nat_le n.depth b) (is_most b ns) (le-leb n.depth b (omega (arith, upto, low))) (most_more a b ns upto parts.1)

pub most_append : (a : ℕ) (xs ys : List Node) → is_most a xs ≡ true → is_most a ys ≡ true → is_most a (xs ++ ys) ≡ true
most_append a [] ys front back = back
most_append a (x ∷ xs) ys front back =
    let parts = and_parts (nat_le x.depth a) (is_most a xs) front in
    both (nat_le x.depth a) (is_most a (xs ++ ys)) parts.0 (most_append a xs ys parts.1 back)

most_take : (a k : ℕ) (ns : List Node) → is_most a ns ≡ true → is_most a (take k ns) ≡ true
most_take a zero ns most = refl
most_take a (suc k) [] most = refl
most_take a (suc k) (n ∷ ns) most =
    let parts = and_parts (nat_le n.depth a) (is_most a ns) most in
    both (nat_le n.depth a) (is_most a (take k ns)) parts.0 (most_take a k ns parts.1)

most_drop : (a k : ℕ) (ns : List Node) → is_most a ns ≡ true → is_most a (drop k ns) ≡ true
most_drop a zero ns most = most
most_drop a (suc k) [] most = refl
most_drop a (suc k) (n ∷ ns) most = most_drop a k ns (and_parts (nat_le n.depth a) (is_most a ns) most).1

-- some nodes go
pub most_removed : (a from to : ℕ) (ns : List Node) → is_most a ns ≡ true → is_most a (take from ns ++ drop to ns) ≡ true
most_removed a from to ns most = most_append a (take from ns) (drop to ns) (most_take a from ns most) (most_drop a to ns most)

-- one more node
pub most_insert : (a i : ℕ) (n : Node) (ns : List Node) → n.depth ≤ a → is_most a ns ≡ true → is_most a (insert ns i n) ≡ true
most_insert a zero n ns low most = both (nat_le n.depth a) (is_most a ns) (le-leb n.depth a low) most
most_insert a (suc i) n [] low most = both (nat_le n.depth a) true (le-leb n.depth a low) refl
most_insert a (suc i) n (m ∷ ns) low most =
    let parts = and_parts (nat_le m.depth a) (is_most a ns) most in
    both (nat_le m.depth a) (is_most a (insert ns i n)) parts.0 (most_insert a i n ns low parts.1)

pub most_one : (a : ℕ) (n : Node) → n.depth ≤ a → is_most a (n ∷ []) ≡ true
most_one a n low = both (nat_le n.depth a) true (le-leb n.depth a low) refl

-- another place changes no depth
pub most_set : (a i : ℕ) (p : Place) (d : Node) (ns : List Node) → i < length ns → is_most a ns ≡ true → is_most a (set ns i (record { place = p; depth = (get_or ns i d).depth })) ≡ true
most_set a i p d [] within most = absurd (omega (arith, within))
most_set a zero p d (n ∷ ns) within most = most
most_set a (suc i) p d (n ∷ ns) within most =
    let parts = and_parts (nat_le n.depth a) (is_most a ns) most in
    both (nat_le n.depth a) (is_most a (set ns i (record { place = p; depth = (get_or ns i d).depth }))) parts.0 (most_set a i p d ns (omega (arith, within)) parts.1)

pub most_renamed : (new : Place → Option Place) (a : ℕ) (ns : List Node) → is_most a (nodes_renamed new ns) ≡ is_most a ns
most_renamed new a [] = refl
most_renamed new a (n ∷ ns) = ap (λ b. nat_le n.depth a && b) (most_renamed new a ns)

-- ---- the depth at a position

most_at : (a i : ℕ) (ns : List Node) → i < length ns → is_most a ns ≡ true → depth_of ns i ≤ a
most_at a i [] within most = absurd (omega (arith, within))
most_at a zero (n ∷ ns) within most = leb-true n.depth a (and_parts (nat_le n.depth a) (is_most a ns) most).0
most_at a (suc i) (n ∷ ns) within most = most_at a i ns (omega (arith, within)) (and_parts (nat_le n.depth a) (is_most a ns) most).1

least_at : (a i : ℕ) (ns : List Node) → i < length ns → is_least a ns ≡ true → a ≤ depth_of ns i
least_at a i [] within least = absurd (omega (arith, within))
least_at a zero (n ∷ ns) within least = leb-true a n.depth (and_parts (nat_le a n.depth) (is_least a ns) least).0
least_at a (suc i) (n ∷ ns) within least = least_at a i ns (omega (arith, within)) (and_parts (nat_le a n.depth) (is_least a ns) least).1

-- where none is deeper than all behind the first are at least, the first is the origin of each
pub fan_of_bounds : (ns : List Node) (behind deepest : ℕ) → 0 < behind → deepest ≤ behind → is_least behind (drop 1 ns) ≡ true → is_most deepest ns ≡ true → IsFan ns
fan_of_bounds ns behind deepest some upto least most = λ forest i d more within. by ns least most forest i d more within
  where
    by : (ns : List Node) → is_least behind (drop 1 ns) ≡ true → is_most deepest ns ≡ true → is_forest ns ≡ true → (i : ℕ) (d : Node) → 0 < i → i < length ns → origin_at ns i d ≡ Some 0
    by [] least most forest i d more within = absurd (omega (arith, within))
    by (n ∷ ns) least most forest zero d more within = absurd (omega (arith, more))
    by (n ∷ ns) least most forest (suc i) d more within =
        let inside : i < length ns = omega (arith, within) in
        let is : (get_or ns i d).depth ≡ depth_of ns i = sym (depth_of_read ns i d inside) in
        let low = least_at behind i ns inside least in
        let high : depth_of ns i ≤ deepest = most_at deepest (suc i) (n ∷ ns) within most in
        first_above (n ∷ ns) forest (suc i) (get_or ns i d).depth behind within is (omega (arith, is, low, some)) (omega (arith, is, high, upto)) least
