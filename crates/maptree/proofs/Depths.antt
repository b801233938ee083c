-- A number that no depth of some nodes goes below, and what it says of runs.
use Rattle.std.proofs.Common.{◌≡◌, ℕ, zero, suc, ◌<◌, ◌≤◌, true, Bool, ◌&&◌, nat_le, nat_lt, min, List, [], ◌∷◌, ◌++◌, length, take, drop, set, get_or, Option, None, refl, sym, ap, ◌∙◌, arith}
use Rattle.std.specs.Prelude.{insert}
use Rattle.std.proofs.lemmas.Bool.{and_parts, leb-true, le-leb, lt-ltb, le-ltb}
use Rattle.space.specs.declared.place.Place.{Place}
use Rattle.space.specs.declared.node.Node.{Node}
use Rattle.maptree.specs.Nodes.{run_len, last_less, one_on}
use Rattle.maptree.specs.Blocks.{is_least}
use Rattle.maptree.specs.Renamings.{nodes_renamed}

-- the first of two tests
both : (a b : Bool) → a ≡ true → b ≡ true → (a && b) ≡ true
both a b is_a is_b = rw (is_a, is_b) refl

-- less is no more
pub least_less : (a b : ℕ) (ns : List Node) → a ≤ b → is_least b ns ≡ true → is_least a ns ≡ true
least_less a b [] upto least = refl
least_less a b (n ∷ ns) upto least =
    let parts = and_parts (nat_le b n.depth) (is_least b ns) least in
    let low = leb-true b n.depth parts.0 in
    both (nat_le a n.depth) (is_least a ns) (le-leb a n.depth (omega (arith, upto, low))) (least_less a b ns upto parts.1)

pub least_append : (a : ℕ) (xs ys : List Node) → is_least a xs ≡ true → is_least a ys ≡ true → is_least a (xs ++ ys) ≡ true
least_append a [] ys front back = back
least_append a (x ∷ xs) ys front back =
    let parts = and_parts (nat_le a x.depth) (is_least a xs) front in
    both (nat_le a x.depth) (is_least a (xs ++ ys)) parts.0 (least_append a xs ys parts.1 back)

pub least_take : (a k : ℕ) (ns : List Node) → is_least a ns ≡ true → is_least a (take k ns) ≡ true
least_take a zero ns least = refl
least_take a (suc k) [] least = refl
least_take a (suc k) (n ∷ ns) least =
    let parts = and_parts (nat_le a n.depth) (is_least a ns) least in
    both (nat_le a n.depth) (is_least a (take k ns)) parts.0 (least_take a k ns parts.1)

pub least_drop : (a k : ℕ) (ns : List Node) → is_least a ns ≡ true → is_least a (drop k ns) ≡ true
least_drop a zero ns least = least
least_drop a (suc k) [] least = refl
least_drop a (suc k) (n ∷ ns) least = least_drop a k ns (and_parts (nat_le a n.depth) (is_least a ns) least).1

pub least_insert : (a i : ℕ) (n : Node) (ns : List Node) → a ≤ n.depth → is_least a ns ≡ true → is_least a (insert ns i n) ≡ true
least_insert a zero n ns low least = both (nat_le a n.depth) (is_least a ns) (le-leb a n.depth low) least
least_insert a (suc i) n [] low least = both (nat_le a n.depth) true (le-leb a n.depth low) refl
least_insert a (suc i) n (m ∷ ns) low least =
    let parts = and_parts (nat_le a m.depth) (is_least a ns) least in
    both (nat_le a m.depth) (is_least a (insert ns i n)) parts.0 (least_insert a i n ns low parts.1)

-- another place changes no depth
pub least_set : (a i : ℕ) (p : Place) (d : Node) (ns : List Node) → i < length ns → is_least a ns ≡ true → is_least a (set ns i (record { place = p; depth = (get_or ns i d).depth })) ≡ true
least_set a i p d [] within least = absurd (omega (arith, within))
least_set a zero p d (n ∷ ns) within least = least
least_set a (suc i) p d (n ∷ ns) within least =
    let parts = and_parts (nat_le a n.depth) (is_least a ns) least in
    both (nat_le a n.depth) (is_least a (set ns i (record { place = p; depth = (get_or ns i d).depth }))) parts.0 (least_set a i p d ns (omega (arith, within)) parts.1)

pub least_renamed : (new : Place → Option Place) (a : ℕ) (ns : List Node) → is_least a (nodes_renamed new ns) ≡ is_least a ns
least_renamed new a [] = refl
least_renamed new a (n ∷ ns) = ap (λ b. nat_le a n.depth && b) (least_renamed new a ns)

-- ---- runs

-- where all are deeper, the run has all
pub all_deeper : (depth least : ℕ) (ns : List Node) → depth < least → is_least least ns ≡ true → run_len depth ns ≡ length ns
all_deeper depth least [] deep is = refl
all_deeper depth least (n ∷ ns) deep is =
    let parts = and_parts (nat_le least n.depth) (is_least least ns) is in
    let low = leb-true least n.depth parts.0 in
    let rest = all_deeper depth least ns deep parts.1 in
    rw (lt-ltb depth n.depth (omega (arith, low, deep))) (omega (arith, rest))

-- where none is less deep, there is no last one
pub none_less : (depth least : ℕ) (ns : List Node) → depth ≤ least → is_least least ns ≡ true → last_less depth ns ≡ None
none_less depth least [] low is = refl
none_less depth least (n ∷ ns) low is =
    let parts = and_parts (nat_le least n.depth) (is_least least ns) is in
    let here = leb-true least n.depth parts.0 in
    rw (le-ltb n.depth depth (omega (arith, low, here)), none_less depth least ns low parts.1) refl

pub least_one : (a : ℕ) (n : Node) → a ≤ n.depth → is_least a (n ∷ []) ≡ true
least_one a n low = both (nat_le a n.depth) true (le-leb a n.depth low) refl

-- ---- all but the first

-- where there was none, the first that comes is the first of all
pub behind_new : (a least : ℕ) (xs ys : List Node) → xs ≡ [] → a ≤ least → is_least least (drop 1 ys) ≡ true → is_least a (drop 1 (xs ++ ys)) ≡ true
behind_new a least xs ys none low is = ap (λ ns. is_least a (drop 1 (ns ++ ys))) none ∙ least_less a least (drop 1 ys) low is

-- else all that come stand behind it
pub behind_more : (a least : ℕ) (xs ys : List Node) → 0 < length xs → a ≤ least → is_least least ys ≡ true → is_least a (drop 1 xs) ≡ true → is_least a (drop 1 (xs ++ ys)) ≡ true
behind_more a least [] ys some low is behind = absurd (omega (arith, some))
behind_more a least (x ∷ xs) ys some low is behind = least_append a xs ys behind (least_less a least ys low is)

-- a node that comes first has all others behind it
pub behind_in_front : (a : ℕ) (n : Node) (ns : List Node) → is_least a ns ≡ true → is_least a (drop 1 (insert ns 0 n)) ≡ true
behind_in_front a n ns least = least

pub behind_insert : (a b i : ℕ) (n : Node) (ns : List Node) → 0 < i → i ≤ length ns → a ≤ b → a ≤ n.depth → is_least b (drop 1 ns) ≡ true → is_least a (drop 1 (insert ns i n)) ≡ true
behind_insert a b zero n ns some within low here behind = absurd (omega (arith, some))
behind_insert a b (suc i) n [] some within low here behind = absurd (omega (arith, within))
behind_insert a b (suc i) n (m ∷ ns) some within low here behind = least_insert a i n ns here (least_less a b ns low behind)

pub behind_set : (a i : ℕ) (p : Place) (d : Node) (ns : List Node) → i < length ns → is_least a (drop 1 ns) ≡ true → is_least a (drop 1 (set ns i (record { place = p; depth = (get_or ns i d).depth }))) ≡ true
behind_set a i p d [] within behind = absurd (omega (arith, within))
behind_set a zero p d (n ∷ ns) within behind = behind
behind_set a (suc i) p d (n ∷ ns) within behind = least_set a i p d ns (omega (arith, within)) behind

pub behind_renamed : (new : Place → Option Place) (a : ℕ) (ns : List Node) → is_least a (drop 1 (nodes_renamed new ns)) ≡ is_least a (drop 1 ns)
behind_renamed new a [] = refl
behind_renamed new a (n ∷ ns) = least_renamed new a ns

pub behind_take : (a k : ℕ) (ns : List Node) → is_least a (drop 1 ns) ≡ true → is_least a (drop 1 (take k ns)) ≡ true
behind_take a zero ns behind = refl
behind_take a (suc k) [] behind = refl
behind_take a (suc k) (n ∷ ns) behind = least_take a k ns behind

pub behind_removed : (a from to : ℕ) (ns : List Node) → from ≤ to → is_least a (drop 1 ns) ≡ true → is_least a (drop 1 (take from ns ++ drop to ns)) ≡ true
behind_removed a zero zero ns rising behind = behind
behind_removed a zero (suc to) [] rising behind = refl
behind_removed a zero (suc to) (n ∷ ns) rising behind = least_drop a 1 (drop to ns) (least_drop a to ns behind)
behind_removed a (suc from) zero ns rising behind = absurd (omega (arith, rising))
behind_removed a (suc from) (suc to) [] rising behind = refl
behind_removed a (suc from) (suc to) (n ∷ ns) rising behind = least_append a (take from ns) (drop to ns) (least_take a from ns behind) (least_drop a to ns behind)

-- none is less deep than a root
pub least_zero : (ns : List Node) → is_least 0 ns ≡ true
least_zero [] = refl
least_zero (n ∷ ns) = both (nat_le 0 n.depth) (is_least 0 ns) (le-leb 0 n.depth (omega arith)) (least_zero ns)

-- where none behind the first is less deep, the last one that is can be the first alone
pub first_alone : (depth least k : ℕ) (ns : List Node) → depth ≤ least → is_least least (drop 1 ns) ≡ true → last_less depth (take k ns) ≡ last_less depth (take (min k 1) ns)
first_alone depth least zero ns low behind = refl
first_alone depth least (suc k) [] low behind = let one : min (suc k) 1 ≡ suc 0 = omega arith in ap (λ m. last_less depth (take m [])) (sym one)
first_alone depth least (suc k) (n ∷ ns) low behind =
    let one : min (suc k) 1 ≡ suc 0 = omega arith in
    ap (one_on (nat_lt n.depth depth)) (none_less depth least (take k ns) low (least_take least k ns behind)) ∙ ap (λ m. last_less depth (take m (n ∷ ns))) (sym one)
