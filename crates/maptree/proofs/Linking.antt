-- The path to a node, kept with the root's place first, and the links that it gives.
use Rattle.std.proofs.Common.{◌≡◌, ℕ, zero, suc, ◌+◌, ◌-◌, ◌<◌, true, false, Bool, ◌||◌, List, [], ◌∷◌, ◌++◌, length, take, drop, get_or, Some, refl, sym, ap, ◌∙◌, arith, ◌⊎◌, inl, inr, if◌then◌else◌}
use Rattle.std.specs.Prelude.{reverse, not}
use Rattle.std.specs.List.{slice_get, list_all, list_any}
use Rattle.std.specs.Option.{option_and_then}
use Rattle.std.specs.FinMap.Entries.{find}
use Rattle.std.proofs.lemmas.Bool.{and_parts, and_from}
use Rattle.std.proofs.lemmas.Option.{same_Some}
use Rattle.std.proofs.Math.Bool.{or-true}
use Rattle.std.proofs.lemmas.List.{take-append-drop, drop_more, length-drop, length-reverse, reverse-append, append_assoc}
use Rattle.space.specs.declared.place.Place.{Place}
use Rattle.space.specs.Place.{place_cmp, same_place}
use Rattle.space.proofs.Places.{same_self}
use Rattle.space.specs.declared.node.Node.{Node}
use Rattle.maptree.specs.Origins.{Origins, OriginsStand, are_once, origin_in}
use Rattle.maptree.specs.Nodes.{is_new, are_distinct, are_depths, is_forest, above, first, links, origins_of}

-- the first of the reversed list is the last of the list
first_append : (xs : List Place) (x : Place) → 0 < length xs → first (xs ++ x ∷ []) ≡ first xs
first_append [] x some = absurd (omega (arith, some))
first_append (y ∷ ys) x some = refl

pub first_reverse : (xs : List Place) → first (reverse xs) ≡ slice_get xs (length xs - 1)
first_reverse [] = refl
first_reverse (x ∷ []) = refl
first_reverse (x ∷ y ∷ ys) =
    let before : length (y ∷ ys) - 1 ≡ length ys = omega arith in
    let last : suc (length ys) ≡ length (x ∷ y ∷ ys) - 1 = omega arith in
    ap first (reverse-append (x ∷ []) (y ∷ ys)) ∙ first_append (reverse (y ∷ ys)) x (omega (arith, length-reverse (y ∷ ys))) ∙ first_reverse (y ∷ ys)
    ∙ ap (slice_get (y ∷ ys)) before ∙ ap (slice_get (x ∷ y ∷ ys)) last

-- a list without its last elements, reversed, is the reversed list without its first
drop_append : (xs ys : List Place) → drop (length xs) (xs ++ ys) ≡ ys
drop_append [] ys = refl
drop_append (x ∷ xs) ys = drop_append xs ys

pub reverse_take : (k : ℕ) (xs : List Place) → reverse (take k xs) ≡ drop (length (reverse xs) - k) (reverse xs)
reverse_take k xs =
    let parts : reverse xs ≡ reverse (drop k xs) ++ reverse (take k xs) = ap reverse (sym (take-append-drop k xs)) ∙ reverse-append (take k xs) (drop k xs) in
    let count : length (reverse (drop k xs)) ≡ length (reverse xs) - k = length-reverse (drop k xs) ∙ length-drop k xs ∙ ap (λ n. n - k) (sym (length-reverse xs)) in
    sym (ap (λ ys. drop (length (reverse xs) - k) ys) parts ∙ ap (λ n. drop n (reverse (drop k xs) ++ reverse (take k xs))) (sym count) ∙ drop_append (reverse (drop k xs)) (reverse (take k xs)))

-- one more node: its place with the last of the path that is less deep, and the path to the next
module _ (ns : List Node) (all done : Origins) (path : List Place) (i : ℕ) (d : Node) where
  -- the node, and the part of the path that is less deep
  abbrev node : Node
  node = get_or ns i d

  abbrev kept : List Place
  kept = take node.depth path

  pub one_more_link : (done ++ links (reverse path) (drop i ns)) ≡ all → i < length ns
      → ((done ++ (node.place, slice_get kept (length kept - 1)) ∷ []) ++ links (reverse (kept ++ node.place ∷ [])) (drop (i + 1) ns)) ≡ all
  one_more_link whole within =
      let rest = drop (i + 1) ns in
      let path_is : reverse (kept ++ node.place ∷ []) ≡ node.place ∷ above node (reverse path) = reverse-append kept (node.place ∷ []) ∙ ap (λ ps. node.place ∷ ps) (reverse_take node.depth path) in
      let origin : slice_get kept (length kept - 1) ≡ first (above node (reverse path)) = sym (first_reverse kept) ∙ ap first (reverse_take node.depth path) in
      append_assoc done ((node.place, slice_get kept (length kept - 1)) ∷ []) (links (reverse (kept ++ node.place ∷ [])) rest)
      ∙ (λ j. done ++ (node.place, origin j) ∷ links (path_is j) rest)
      ∙ ap (λ ms. done ++ links (reverse path) ms) (sym (drop_more ns i d within)) ∙ whole

-- the link of the next node, and those behind it
pub next_link : (ns : List Node) (path : List Place) (i : ℕ) (n : Node) → i < length ns → n ≡ get_or ns i n
    → links (reverse path) (drop i ns) ≡ (n.place, slice_get (take n.depth path) (length (take n.depth path) - 1)) ∷ links (reverse (take n.depth path ++ n.place ∷ [])) (drop (i + 1) ns)
next_link ns path i n within same =
    let kept = take n.depth path in
    let rest = drop (i + 1) ns in
    let path_is : reverse (kept ++ n.place ∷ []) ≡ n.place ∷ above n (reverse path) = reverse-append kept (n.place ∷ []) ∙ ap (λ ps. n.place ∷ ps) (reverse_take n.depth path) in
    let origin : slice_get kept (length kept - 1) ≡ first (above n (reverse path)) = sym (first_reverse kept) ∙ ap first (reverse_take n.depth path) in
    ap (links (reverse path)) (drop_more ns i n within ∙ ap (λ m. m ∷ rest) (sym same))
    ∙ (λ j. (n.place, sym origin j) ∷ links (sym path_is j) rest)

-- ---- no place comes twice

new_once : (p : Place) (path : List Place) (ns : List Node) → is_new p ns ≡ true → list_all (λ q. not (same_place p q.0)) (links path ns) ≡ true
new_once p path [] new = refl
new_once p path (n ∷ ns) new =
    let parts = and_parts (not (same_place p n.place)) (is_new p ns) new in
    and_from _ _ parts.0 (new_once p (n.place ∷ above n path) ns parts.1)

distinct_once : (path : List Place) (ns : List Node) → are_distinct ns ≡ true → are_once (links path ns) ≡ true
distinct_once path [] distinct = refl
distinct_once path (n ∷ ns) distinct =
    let parts = and_parts (is_new n.place ns) (are_distinct ns) distinct in
    and_from _ _ (new_once n.place (n.place ∷ above n path) ns parts.0) (distinct_once (n.place ∷ above n path) ns parts.1)

pub forest_once : (ns : List Node) → is_forest ns ≡ true → are_once (origins_of ns) ≡ true
forest_once ns forest = distinct_once [] ns (and_parts (are_depths 0 ns) (are_distinct ns) forest).1

-- ---- each origin stands there

in_drop : (k : ℕ) (path : List Place) (q : Place) → list_any (same_place q) (drop k path) ≡ true → list_any (same_place q) path ≡ true
in_drop zero path q there = there
in_drop (suc k) [] q there = there
in_drop (suc k) (p ∷ path) q there = ap (λ b. same_place q p || b) (in_drop k path q there) ∙ or-true (same_place q p)

in_first : (path : List Place) (q : Place) → first path ≡ Some q → list_any (same_place q) path ≡ true
in_first [] q is = absurd (cc is)
in_first (p ∷ path) q is = ap (λ x. same_place q x || list_any (same_place q) path) (same_Some p q is) ∙ ap (λ b. b || list_any (same_place q) path) (same_self q)

-- or in the path to the first node
stands_or : (path : List Place) (ns : List Node) (p q : Place) → origin_in (links path ns) p ≡ Some q → (list_any (λ o. same_place q o.0) (links path ns) ≡ true) ⊎ (list_any (same_place q) path ≡ true)
stands_or path [] p q is = absurd (cc is)
stands_or path (n ∷ ns) p q is = by (same_place p n.place) is (stands_or (n.place ∷ above n path) ns p q)
  where
    rest : Origins
    rest = links (n.place ∷ above n path) ns

    behind : (list_any (λ o. same_place q o.0) rest ≡ true) ⊎ (list_any (same_place q) (n.place ∷ above n path) ≡ true) → (list_any (λ o. same_place q o.0) (links path (n ∷ ns)) ≡ true) ⊎ (list_any (same_place q) path ≡ true)
    behind (inl there) = inl (ap (λ b. same_place q n.place || b) there ∙ or-true (same_place q n.place))
    behind (inr among) = which (same_place q n.place) refl among
      where
        which : (b : Bool) → same_place q n.place ≡ b → (b || list_any (same_place q) (above n path)) ≡ true → (list_any (λ o. same_place q o.0) (links path (n ∷ ns)) ≡ true) ⊎ (list_any (same_place q) path ≡ true)
        which true same _ = inl (ap (λ b. b || list_any (λ o. same_place q o.0) rest) same)
        which false other there = inr (in_drop (length path - n.depth) path q there)

    by : (b : Bool) → option_and_then (λ o. o) (if b then Some (first (above n path)) else find place_cmp p rest) ≡ Some q
        → (origin_in rest p ≡ Some q → (list_any (λ o. same_place q o.0) rest ≡ true) ⊎ (list_any (same_place q) (n.place ∷ above n path) ≡ true))
        → (list_any (λ o. same_place q o.0) (links path (n ∷ ns)) ≡ true) ⊎ (list_any (same_place q) path ≡ true)
    by true here more = inr (in_drop (length path - n.depth) path q (in_first (above n path) q here))
    by false there more = behind (more there)

pub origins_stand : (ns : List Node) → OriginsStand (origins_of ns)
origins_stand ns p q is = by (stands_or [] ns p q is)
  where
    by : (list_any (λ o. same_place q o.0) (origins_of ns) ≡ true) ⊎ (list_any (same_place q) [] ≡ true) → list_any (λ o. same_place q o.0) (origins_of ns) ≡ true
    by (inl there) = there
    by (inr none) = absurd (cc none)
