-- A node renamed renames its place in the tree.
use Rattle.std.proofs.Common.{◌≡◌, ℕ, zero, suc, ◌+◌, ◌<◌, ◌≤◌, true, false, Bool, not, nat_lt, ◌&&◌, List, [], ◌∷◌, length, map, get_or, Some, None, refl, sym, ap, ◌∙◌, arith, ◌⊎◌, inl, inr, if◌then◌else◌}
use Rattle.std.specs.List.{prefix_len}
use Rattle.std.specs.Prelude.{position}
use Rattle.std.proofs.lemmas.Bool.{and_parts, ltb-false}
use Rattle.std.proofs.Math.ListN.{set}
use Rattle.space.specs.declared.place.Place.{Place}
use Rattle.space.specs.Place.{same_place}
use Rattle.space.proofs.Places.{same_self, same_or_apart, apart_back}
use Rattle.space.specs.declared.node.Node.{Node}
use Rattle.maptree.specs.Origins.{swapped, renamed, place_at}
use Rattle.maptree.specs.Nodes.{are_depths, is_new, are_distinct, is_forest, origins_of}
use Rattle.maptree.proofs.Paths.{new_apart}
use Rattle.maptree.proofs.Mapped.{with_place, links-mapped, are_depths-mapped, are_distinct-mapped}
use Rattle.maptree.proofs.Positions.{place_at-links, place_of_read, position-links}

not_true : (b : Bool) → not b ≡ true → b ≡ false
not_true b is = grind (arith, is)

-- a node with one place for another
abbrev pub replaced : Place → Place → Node → Node
replaced p q n = with_place (swapped p q) n

module _ (p q : Place) where
  -- a node that has another place is kept
  kept : (n : Node) → same_place p n.place ≡ false → replaced p q n ≡ n
  kept n apart = rw apart refl

  pub all_kept : (ns : List Node) → is_new p ns ≡ true → map (replaced p q) ns ≡ ns
  all_kept [] new = refl
  all_kept (n ∷ ns) new =
      let parts = and_parts (not (same_place p n.place)) (is_new p ns) new in
      ap (λ m. m ∷ map (replaced p q) ns) (kept n (not_true (same_place p n.place) parts.0)) ∙ ap (λ l. n ∷ l) (all_kept ns parts.1)

  -- places other than the new one stay apart
  swapped_apart : (x y : Place) → same_place q x ≡ false → same_place q y ≡ false → swapped p q x ≡ swapped p q y → x ≡ y
  swapped_apart x y new_x new_y same = by (same_or_apart p x) (same_or_apart p y)
    where
      goes : (z : Place) → p ≡ z → swapped p q z ≡ q
      goes z is = let here : same_place p z ≡ true = ap (same_place p) (sym is) ∙ same_self p in rw here refl

      stays : (z : Place) → same_place p z ≡ false → swapped p q z ≡ z
      stays z apart = rw apart refl

      by : (p ≡ x) ⊎ (same_place p x ≡ false) → (p ≡ y) ⊎ (same_place p y ≡ false) → x ≡ y
      by (inl is_x) (inl is_y) = sym is_x ∙ is_y
      by (inl is_x) (inr not_y) = let one : q ≡ y = sym (goes x is_x) ∙ same ∙ stays y not_y in absurd (cc (new_y, ap (same_place q) one, same_self q))
      by (inr not_x) (inl is_y) = let one : q ≡ x = sym (goes y is_y) ∙ sym same ∙ stays x not_x in absurd (cc (new_x, ap (same_place q) one, same_self q))
      by (inr not_x) (inr not_y) = sym (stays x not_x) ∙ same ∙ stays y not_y

-- where places are distinct, the place of one node is replaced alone
pub set_is_replaced : (q : Place) (ns : List Node) (i : ℕ) (d : Node) → are_distinct ns ≡ true → i < length ns
    → set ns i (record { place = q; depth = (get_or ns i d).depth }) ≡ map (replaced (get_or ns i d).place q) ns
set_is_replaced q [] i d distinct within = absurd (omega (arith, within))
set_is_replaced q (n ∷ ns) zero d distinct within =
    let parts = and_parts (is_new n.place ns) (are_distinct ns) distinct in
    let e = same_self n.place in
    rw e (ap (λ l. record { place = q; depth = n.depth } ∷ l) (sym (all_kept n.place q ns parts.0)))
set_is_replaced q (n ∷ ns) (suc i) d distinct within =
    let parts = and_parts (is_new n.place ns) (are_distinct ns) distinct in
    let e = apart_back n.place (get_or ns i d).place (not_here ns i parts.0 (omega (arith, within))) in
    rw e (ap (λ l. n ∷ l) (set_is_replaced q ns i d parts.1 (omega (arith, within))))
  where
    not_here : (ns : List Node) (i : ℕ) → is_new n.place ns ≡ true → i < length ns → same_place n.place (get_or ns i d).place ≡ false
    not_here [] i new within = absurd (omega (arith, within))
    not_here (m ∷ ns) zero new within = not_true (same_place n.place m.place) (and_parts (not (same_place n.place m.place)) (is_new n.place ns) new).0
    not_here (m ∷ ns) (suc i) new within = not_here ns i (and_parts (not (same_place n.place m.place)) (is_new n.place ns) new).1 (omega (arith, within))

-- the tree with the place of one node replaced
pub links_of_set : (q : Place) (ns : List Node) (i : ℕ) (d : Node) → is_forest ns ≡ true → i < length ns
    → origins_of (set ns i (record { place = q; depth = (get_or ns i d).depth })) ≡ renamed (get_or ns i d).place q (origins_of ns)
links_of_set q ns i d forest within =
    let parts = and_parts (are_depths 0 ns) (are_distinct ns) forest in
    ap origins_of (set_is_replaced q ns i d parts.1 within) ∙ links-mapped (swapped (get_or ns i d).place q) [] ns

-- it is a forest again
pub forest_of_set : (q : Place) (ns : List Node) (i : ℕ) (d : Node) → is_forest ns ≡ true → is_new q ns ≡ true → i < length ns
    → is_forest (set ns i (record { place = q; depth = (get_or ns i d).depth })) ≡ true
forest_of_set q ns i d forest new within =
    let parts = and_parts (are_depths 0 ns) (are_distinct ns) forest in
    let p = (get_or ns i d).place in
    let depths = are_depths-mapped (swapped p q) 0 ns ∙ parts.0 in
    let distinct = are_distinct-mapped (swapped p q) ns parts.1 (λ x y here there. swapped_apart p q x y (new_apart q x ns new here) (new_apart q y ns new there)) in
    ap is_forest (set_is_replaced q ns i d parts.1 within) ∙ rw (depths, distinct) refl

-- a place that is not in the tree is that of no node
pub new_from_position : (q : Place) (ns : List Node) → position (λ o. same_place q o.0) (origins_of ns) ≡ None → is_new q ns ≡ true
new_from_position q ns none =
    let here = sym (position-links q [] ns) ∙ none in
    all ns (ltb-false (prefix_len (λ n. not (same_place q n.place)) ns) (length ns) (not_there (nat_lt (prefix_len (λ n. not (same_place q n.place)) ns) (length ns)) (prefix_len (λ n. not (same_place q n.place)) ns) here))
  where
    not_there : (b : Bool) (x : ℕ) → (if b then Some x else None) ≡ None → b ≡ false
    not_there true x is = absurd (cc is)
    not_there false x is = refl

    all : (ns : List Node) → length ns ≤ prefix_len (λ n. not (same_place q n.place)) ns → is_new q ns ≡ true
    all [] upto = refl
    all (n ∷ ns) upto = by (same_place q n.place) upto (all ns)
      where
        by : (b : Bool) → suc (length ns) ≤ (if not b then 1 + prefix_len (λ n. not (same_place q n.place)) ns else 0)
            → (length ns ≤ prefix_len (λ n. not (same_place q n.place)) ns → is_new q ns ≡ true) → (not b && is_new q ns) ≡ true
        by true upto rest = absurd (omega (arith, upto))
        by false upto rest = rest (omega (arith, upto))

-- the tree after a node has got another place
pub renamed_says : (q : Place) (ns : List Node) (i : ℕ) (n : Node) → is_forest ns ≡ true → i < length ns → n ≡ get_or ns i n → (d : Place)
    → origins_of (set ns i (record { place = q; depth = n.depth })) ≡ renamed (place_at (origins_of ns) i d) q (origins_of ns)
renamed_says q ns i n forest within is d =
    let place : place_at (origins_of ns) i d ≡ (get_or ns i n).place = place_at-links [] ns i d ∙ place_of_read ns i d n within in
    ap (λ m. origins_of (set ns i (record { place = q; depth = m.depth }))) is ∙ links_of_set q ns i n forest within ∙ ap (λ p. renamed p q (origins_of ns)) (sym place)

-- it is a forest again
pub renamed_forest : (q : Place) (ns : List Node) (i : ℕ) (n : Node) → is_forest ns ≡ true → position (λ o. same_place q o.0) (origins_of ns) ≡ None → i < length ns → n ≡ get_or ns i n
    → is_forest (set ns i (record { place = q; depth = n.depth })) ≡ true
renamed_forest q ns i n forest new within is =
    ap (λ m. is_forest (set ns i (record { place = q; depth = m.depth }))) is ∙ forest_of_set q ns i n forest (new_from_position q ns new) within
