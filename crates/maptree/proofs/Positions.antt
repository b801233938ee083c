-- The nodes of a list and the places of its tree stand at the same positions.
use Rattle.std.proofs.Common.{◌≡◌, ℕ, zero, suc, ◌+◌, ◌<◌, ◌≤◌, true, false, Bool, ◌&&◌, nat_lt, nat_le, not, List, [], ◌∷◌, ◌-◌, length, drop, take, get_or, refl, sym, ap, ◌∙◌, subst, arith, ◌⊎◌, inl, inr, if◌then◌else◌, nat_eq}
use Rattle.std.specs.Prelude.{Decides, position}
use Rattle.std.specs.List.{prefix_len}
use Rattle.std.proofs.lemmas.Bool.{lt-ltb, le-ltb, and_parts}
use Rattle.std.proofs.lemmas.Bool.Decides.{nat_tests}
use Rattle.std.proofs.lemmas.List.{length-drop, take_rest}
use Rattle.std.proofs.lemmas.List.Sums.{prefix_len-le-length}
use Rattle.space.specs.declared.place.Place.{Place}
use Rattle.space.specs.Place.{same_place}
use Rattle.space.specs.declared.node.Node.{Node}
use Rattle.maptree.specs.Origins.{place_at, LeadsTo, HasDepth}
use Rattle.maptree.specs.Nodes.{are_depths, is_new, are_distinct, is_forest, above, links, origins_of, run_len}
use Rattle.maptree.proofs.Runs.{place_of, depth_of, run_at, forest_run, forest_strict, forest_depth, has_place}
use Rattle.maptree.proofs.Paths.{new_apart}
use Rattle.space.proofs.Places.{same_self}

-- there are as many places as nodes
pub length-links : (path : List Place) (ns : List Node) → length (links path ns) ≡ length ns
length-links path [] = refl
length-links path (n ∷ ns) = ap suc (length-links (n.place ∷ above n path) ns)

-- the place at a position is that of its node
pub place_at-links : (path : List Place) (ns : List Node) (i : ℕ) (d : Place) → place_at (links path ns) i d ≡ place_of ns i d
place_at-links path [] i d = refl
place_at-links path (n ∷ ns) zero d = refl
place_at-links path (n ∷ ns) (suc i) d = place_at-links (n.place ∷ above n path) ns i d

-- the place of the node that is read
pub place_of_read : (ns : List Node) (i : ℕ) (d : Place) (n : Node) → i < length ns → place_of ns i d ≡ (get_or ns i n).place
place_of_read [] i d n within = absurd (omega (arith, within))
place_of_read (m ∷ ns) zero d n within = refl
place_of_read (m ∷ ns) (suc i) d n within = place_of_read ns i d n (omega (arith, within))

-- the depth of the node that is read
pub depth_of_read : (ns : List Node) (i : ℕ) (n : Node) → i < length ns → depth_of ns i ≡ (get_or ns i n).depth
depth_of_read [] i n within = absurd (omega (arith, within))
depth_of_read (m ∷ ns) zero n within = refl
depth_of_read (m ∷ ns) (suc i) n within = depth_of_read ns i n (omega (arith, within))

-- the run of a node, by its depth
pub run_at_read : (ns : List Node) (i : ℕ) → i < length ns → run_at ns i ≡ run_len (depth_of ns i) (drop (suc i) ns)
run_at_read [] i within = absurd (omega (arith, within))
run_at_read (m ∷ ns) zero within = refl
run_at_read (m ∷ ns) (suc i) within = run_at_read ns i (omega (arith, within))

-- ---- the front of a list that is deeper

pub run_on : (depth : ℕ) (ns : List Node) (i : ℕ) (d : Node) → i < length ns → depth < (get_or ns i d).depth → run_len depth (drop i ns) ≡ 1 + run_len depth (drop (suc i) ns)
run_on depth [] i d within deep = absurd (omega (arith, within))
run_on depth (n ∷ ns) zero d within deep = rw (lt-ltb depth n.depth deep) refl
run_on depth (n ∷ ns) (suc i) d within deep = run_on depth ns i d (omega (arith, within)) deep

pub run_ends : (depth : ℕ) (ns : List Node) (i : ℕ) (d : Node) → i < length ns → (get_or ns i d).depth ≤ depth → run_len depth (drop i ns) ≡ 0
run_ends depth [] i d within low = absurd (omega (arith, within))
run_ends depth (n ∷ ns) zero d within low = rw (le-ltb depth n.depth low) refl
run_ends depth (n ∷ ns) (suc i) d within low = run_ends depth ns i d (omega (arith, within)) low

-- one more node that is deeper
pub run_more : (depth : ℕ) (ns : List Node) (i : ℕ) (d : Node) → run_len depth ns ≡ i + run_len depth (drop i ns) → i < length ns → depth < (get_or ns i d).depth
    → run_len depth ns ≡ (i + 1) + run_len depth (drop (i + 1) ns)
run_more depth ns i d so_far within deep =
    let step = run_on depth ns i d within deep in
    let one : suc i ≡ i + 1 = omega arith in
    let next : run_len depth (drop (suc i) ns) ≡ run_len depth (drop (i + 1) ns) = ap (λ k. run_len depth (drop k ns)) one in
    omega (arith, so_far, step, next)

-- a node that is not
pub run_stops : (depth : ℕ) (ns : List Node) (i : ℕ) (d : Node) → run_len depth ns ≡ i + run_len depth (drop i ns) → i < length ns → (get_or ns i d).depth ≤ depth → i ≡ run_len depth ns
run_stops depth ns i d so_far within low = let none = run_ends depth ns i d within low in omega (arith, so_far, none)

-- the end of the list
pub run_all : (depth : ℕ) (ns : List Node) (i : ℕ) → run_len depth ns ≡ i + run_len depth (drop i ns) → i ≡ length ns → length ns ≡ run_len depth ns
run_all depth ns i so_far end =
    let none : run_len depth (drop i ns) ≡ 0 = ap (λ k. run_len depth (drop k ns)) end ∙ all ns in
    omega (arith, so_far, none, end)
  where
    all : (ns : List Node) → run_len depth (drop (length ns) ns) ≡ 0
    all [] = refl
    all (n ∷ ns) = all ns

-- a run ends with the list
pub run_len-le : (depth : ℕ) (ns : List Node) → run_len depth ns ≤ length ns
run_len-le depth ns = prefix_len-le-length (λ n. nat_lt depth n.depth) ns

-- ---- what a run says

take_all : (n : ℕ) (ns : List Node) → length ns ≤ n → take n ns ≡ ns
take_all zero [] upto = refl
take_all (suc n) [] upto = refl
take_all zero (m ∷ ns) upto = absurd (omega (arith, upto))
take_all (suc n) (m ∷ ns) upto = ap (λ xs. m ∷ xs) (take_all n ns (omega (arith, upto)))

-- what is counted behind a node is its run
pub run_is : (ns : List Node) (i r : ℕ) (n : Node) → i < length ns → n ≡ get_or ns i n → r ≡ run_len n.depth (take (length ns - (i + 1)) (drop (i + 1) ns)) → r ≡ run_at ns i
run_is ns i r n within is run =
    let one : i + 1 ≡ suc i = omega arith in
    let dropped = length-drop (i + 1) ns in
    let whole : take (length ns - (i + 1)) (drop (i + 1) ns) ≡ drop (i + 1) ns = take_all (length ns - (i + 1)) (drop (i + 1) ns) (omega (arith, dropped)) in
    let depth : depth_of ns i ≡ n.depth = depth_of_read ns i n within ∙ ap (λ m. m.depth) (sym is) in
    run ∙ ap (run_len n.depth) whole ∙ ap (λ k. run_len n.depth (drop k ns)) one ∙ ap (λ k. run_len k (drop (suc i) ns)) (sym depth) ∙ sym (run_at_read ns i within)

-- the run of a node has the places that derive from it, and its own
pub run_says : (ns : List Node) (i r : ℕ) (n : Node) → is_forest ns ≡ true → i < length ns → n ≡ get_or ns i n → r ≡ run_len n.depth (take (length ns - (i + 1)) (drop (i + 1) ns))
    → (j : ℕ) (d : Place) → j < length (origins_of ns)
    → Decides (nat_le i j && nat_lt j (i + 1 + r)) (LeadsTo (origins_of ns) 0 (place_at (origins_of ns) j d) (place_at (origins_of ns) i d))
run_says ns i r n forest within is run j d within_j =
    let size = length-links [] ns in
    let same = run_is ns i r n within is run in
    let at_i = place_at-links [] ns i d in
    let at_j = place_at-links [] ns j d in
    let says = forest_run ns forest i j d within (omega (arith, size, within_j)) in
    subst (λ x. Decides (nat_le i j && nat_lt j (i + 1 + x)) (LeadsTo (origins_of ns) 0 (place_at (origins_of ns) j d) (place_at (origins_of ns) i d))) (sym same)
    (subst (λ p. Decides (nat_le i j && nat_lt j (i + 1 + run_at ns i)) (LeadsTo (origins_of ns) 0 (place_at (origins_of ns) j d) p)) (sym at_i)
    (subst (λ p. Decides (nat_le i j && nat_lt j (i + 1 + run_at ns i)) (LeadsTo (origins_of ns) 0 p (place_of ns i d))) (sym at_j) says))

-- the place of a node
pub node_place : (ns : List Node) (i : ℕ) (n : Node) → i < length ns → n ≡ get_or ns i n → (d : Place) → n.place ≡ place_at (origins_of ns) i d
node_place ns i n within is d = ap (λ m. m.place) is ∙ sym (place_of_read ns i d n within) ∙ sym (place_at-links [] ns i d)

-- each place stands at one position
pub one_position : (ns : List Node) → are_distinct ns ≡ true → (i j : ℕ) (d e : Place) → i < length ns → j < length ns → place_of ns i d ≡ place_of ns j e → i ≡ j
one_position [] distinct i j d e within_i within_j same = absurd (omega (arith, within_i))
one_position (n ∷ ns) distinct zero zero d e within_i within_j same = refl
one_position (n ∷ ns) distinct zero (suc j) d e within_i within_j same =
    let other = new_apart n.place (place_of ns j e) ns (and_parts (is_new n.place ns) (are_distinct ns) distinct).0 (has_place ns j e (omega (arith, within_j))) in
    absurd (cc (other, ap (same_place n.place) same, same_self n.place))
one_position (n ∷ ns) distinct (suc i) zero d e within_i within_j same =
    let other = new_apart n.place (place_of ns i d) ns (and_parts (is_new n.place ns) (are_distinct ns) distinct).0 (has_place ns i d (omega (arith, within_i))) in
    absurd (cc (other, ap (same_place n.place) same, same_self n.place))
one_position (n ∷ ns) distinct (suc i) (suc j) d e within_i within_j same =
    ap suc (one_position ns (and_parts (is_new n.place ns) (are_distinct ns) distinct).1 i j d e (omega (arith, within_i)) (omega (arith, within_j)) same)

-- no other position has the place of a node
pub node_only : (ns : List Node) (i : ℕ) (n : Node) → is_forest ns ≡ true → i < length ns → n ≡ get_or ns i n → (j : ℕ) (d : Place) → j < length (origins_of ns) → place_at (origins_of ns) j d ≡ n.place → j ≡ i
node_only ns i n forest within is j d within_j same =
    let size = length-links [] ns in
    one_position ns (and_parts (are_depths 0 ns) (are_distinct ns) forest).1 j i d n.place (omega (arith, size, within_j)) within
    (sym (place_at-links [] ns j d) ∙ same ∙ ap (λ m. m.place) is ∙ sym (place_of_read ns i n.place n within))

-- a node has as many origins as its depth says
pub node_depth : (ns : List Node) (i : ℕ) (n : Node) → is_forest ns ≡ true → i < length ns → n ≡ get_or ns i n → HasDepth (origins_of ns) n.place n.depth
node_depth ns i n forest within is =
    let place : place_of ns i n.place ≡ n.place = place_of_read ns i n.place n within ∙ ap (λ m. m.place) (sym is) in
    let depth : depth_of ns i ≡ n.depth = depth_of_read ns i n within ∙ ap (λ m. m.depth) (sym is) in
    subst (λ k. HasDepth (origins_of ns) n.place k) depth (subst (λ p. HasDepth (origins_of ns) p (depth_of ns i)) place (forest_depth ns forest i n.place within))

reaches : (r k : ℕ) → r ≡ k → nat_eq r k ≡ true
reaches r k is = grind (arith, nat_tests)

falls_short : (r k : ℕ) → r < k → nat_eq r k ≡ false
falls_short r k less = grind (arith, nat_tests)

-- what the order of two positions decides
pub strict_at : (ns : List Node) (a b : ℕ) → is_forest ns ≡ true → a < length ns → b < length ns
    → (d : Place) → Decides (nat_lt a b && nat_lt b (a + 1 + run_at ns a)) (LeadsTo (origins_of ns) 1 (place_at (origins_of ns) b d) (place_at (origins_of ns) a d))
strict_at ns a b forest within_a within_b d =
    subst (λ p. Decides (nat_lt a b && nat_lt b (a + 1 + run_at ns a)) (LeadsTo (origins_of ns) 1 p (place_at (origins_of ns) a d))) (sym (place_at-links [] ns b d))
    (subst (λ p. Decides (nat_lt a b && nat_lt b (a + 1 + run_at ns a)) (LeadsTo (origins_of ns) 1 (place_of ns b d) p)) (sym (place_at-links [] ns a d))
    (forest_strict ns forest a b d within_a within_b))

-- a node not behind another does not derive from it
pub not_behind : (ns : List Node) (a b : ℕ) → is_forest ns ≡ true → a < length ns → b < length ns → b ≤ a
    → (d : Place) → Decides false (LeadsTo (origins_of ns) 1 (place_at (origins_of ns) b d) (place_at (origins_of ns) a d))
not_behind ns a b forest within_a within_b upto d =
    let same : (nat_lt a b && nat_lt b (a + 1 + run_at ns a)) ≡ false = rw (le-ltb a b upto) refl in
    subst (λ x. Decides x (LeadsTo (origins_of ns) 1 (place_at (origins_of ns) b d) (place_at (origins_of ns) a d))) same (strict_at ns a b forest within_a within_b d)

-- the front of a list has as much of the run as it has room for
run_of_front : (depth k : ℕ) (ns : List Node) → k ≤ length ns → ((run_len depth (take k ns) ≡ k) × (k ≤ run_len depth ns)) ⊎ ((run_len depth (take k ns) < k) × (run_len depth ns < k))
run_of_front depth zero ns within = inl (refl, omega arith)
run_of_front depth (suc k) [] within = absurd (omega (arith, within))
run_of_front depth (suc k) (n ∷ ns) within = by (nat_lt depth n.depth) (run_of_front depth k ns (omega (arith, within)))
  where
    by : (b : Bool) → ((run_len depth (take k ns) ≡ k) × (k ≤ run_len depth ns)) ⊎ ((run_len depth (take k ns) < k) × (run_len depth ns < k))
        → (((if b then 1 + run_len depth (take k ns) else 0) ≡ suc k) × (suc k ≤ (if b then 1 + run_len depth ns else 0)))
        ⊎ (((if b then 1 + run_len depth (take k ns) else 0) < suc k) × ((if b then 1 + run_len depth ns else 0) < suc k))
    by false rest = inr (omega arith, omega arith)
    by true (inl whole) = inl (omega (arith, whole.0), omega (arith, whole.1))
    by true (inr less) = inr (omega (arith, less.0), omega (arith, less.1))

-- a node behind another derives from it exactly where all from there to it are deeper
pub strict_says : (ns : List Node) (a b r : ℕ) (n : Node) → is_forest ns ≡ true → a < b → b < length ns → n ≡ get_or ns a n → r ≡ run_len n.depth (take (b + 1 - (a + 1)) (drop (a + 1) ns))
    → (d : Place) → Decides (nat_eq r (b - a)) (LeadsTo (origins_of ns) 1 (place_at (origins_of ns) b d) (place_at (origins_of ns) a d))
strict_says ns a b r n forest less within is run d =
    let one : a + 1 ≡ suc a = omega arith in
    let span : b + 1 - (a + 1) ≡ b - a = omega arith in
    let dropped = length-drop (a + 1) ns in
    let depth : depth_of ns a ≡ n.depth = depth_of_read ns a n (omega (arith, less, within)) ∙ ap (λ m. m.depth) (sym is) in
    let whole : run_len n.depth (drop (a + 1) ns) ≡ run_at ns a = ap (λ k. run_len n.depth (drop k ns)) one ∙ ap (λ k. run_len k (drop (suc a) ns)) (sym depth) ∙ sym (run_at_read ns a (omega (arith, less, within))) in
    let front : r ≡ run_len n.depth (take (b - a) (drop (a + 1) ns)) = run ∙ ap (λ k. run_len n.depth (take k (drop (a + 1) ns))) span in
    let same : nat_eq r (b - a) ≡ (nat_lt a b && nat_lt b (a + 1 + run_at ns a)) = by r (run_len n.depth (take (b - a) (drop (a + 1) ns))) (run_len n.depth (drop (a + 1) ns)) (run_at ns a) front whole (run_of_front n.depth (b - a) (drop (a + 1) ns) (omega (arith, dropped, within, less))) in
    subst (λ x. Decides x (LeadsTo (origins_of ns) 1 (place_at (origins_of ns) b d) (place_at (origins_of ns) a d))) (sym same) (strict_at ns a b forest (omega (arith, less, within)) within d)
  where
    by : (r f w x : ℕ) → r ≡ f → w ≡ x → ((f ≡ b - a) × (b - a ≤ w)) ⊎ ((f < b - a) × (w < b - a)) → nat_eq r (b - a) ≡ (nat_lt a b && nat_lt b (a + 1 + x))
    by r f w x e g (inl p) = rw (lt-ltb a b less, lt-ltb b (a + 1 + x) (omega (arith, g, p.1, less))) (reaches r (b - a) (e ∙ p.0))
    by r f w x e g (inr p) = rw (lt-ltb a b less, le-ltb b (a + 1 + x) (omega (arith, g, p.1, less))) (falls_short r (b - a) (omega (arith, e, p.0)))

-- a place stands at one position among the nodes and among the places
pub position-links : (p : Place) (path : List Place) (ns : List Node) → position (λ o. same_place p o.0) (links path ns) ≡ position (λ n. same_place p n.place) ns
position-links p path ns =
    let same = front ns path in
    let size = length-links path ns in
    rw (same, size) refl
  where
    front : (ns : List Node) (path : List Place) → prefix_len (λ o. not (same_place p o.0)) (links path ns) ≡ prefix_len (λ n. not (same_place p n.place)) ns
    front [] path = refl
    front (n ∷ ns) path = ap (λ k. if not (same_place p n.place) then 1 + k else 0) (front ns (n.place ∷ above n path))

pub ruleset lengths = (length-links, run_len-le)

-- a node behind another derives from it exactly where the run of the other reaches it
pub strict_upto : (ns : List Node) (a b r : ℕ) (n : Node) → is_forest ns ≡ true → a < b → b < length ns → n ≡ get_or ns a n → r ≡ run_len n.depth (drop (a + 1) ns)
    → (d : Place) → Decides (nat_le (b - a) r) (LeadsTo (origins_of ns) 1 (place_at (origins_of ns) b d) (place_at (origins_of ns) a d))
strict_upto ns a b r n forest less within is run d =
    let reaches = run_is ns a r n (omega (arith, less, within)) is (run ∙ ap (run_len n.depth) (sym (take_rest ns (a + 1)))) in
    subst (λ x. Decides x (LeadsTo (origins_of ns) 1 (place_at (origins_of ns) b d) (place_at (origins_of ns) a d))) (sym (by (run_at ns a) reaches)) (strict_at ns a b forest (omega (arith, less, within)) within d)
  where
    by : (k : ℕ) → r ≡ k → nat_le (b - a) r ≡ (nat_lt a b && nat_lt b (a + 1 + k))
    by k same = grind (arith, nat_tests)
