-- The last node before a node that is less deep is its origin.
use Rattle.std.proofs.Common.{◌≡◌, ℕ, zero, suc, ◌<◌, ◌≤◌, true, List, [], ◌∷◌, length, take, get_or, Option, Some, None, option_map, refl, sym, ap, ◌∙◌, subst, arith, rules, IfSome}
use Rattle.std.proofs.Math.Nat.{min-le_left}
use Rattle.std.proofs.lemmas.List.{length-take, length-take-le, get_or_default}
use Rattle.std.proofs.lemmas.Option.{same_Some}
use Rattle.std.specs.List.{list_any}
use Rattle.space.specs.declared.place.Place.{Place}
use Rattle.space.specs.declared.node.Node.{Node}
use Rattle.space.specs.Place.{same_place}
use Rattle.space.proofs.Lists.{blank}
use Rattle.maptree.specs.Origins.{origin_in, place_at, IsOriginAt}
use Rattle.maptree.specs.Nodes.{is_forest, origins_of, origin_at, last_less}
use Rattle.maptree.proofs.Listed.{listed_at}
use Rattle.maptree.proofs.Runs.{depth_of}
use Rattle.maptree.proofs.Positions.{depth_of_read, length-links, node_place}
use Rattle.maptree.proofs.Origin.{nearest_is_origin, root_has_none, never}
use Rattle.maptree.proofs.LastLess.{some_says, none_says}

-- it stands before
pub nearest_before : (ns : List Node) (i depth : ℕ) (o : Option ℕ) → o ≡ last_less depth (take i ns) → IfSome o (λ r. r < i)
nearest_before ns i depth None is = search rules
nearest_before ns i depth (Some r) is =
    let within = (some_says depth (take i ns) r (sym is)).within in
    let size = length-take i ns in
    let low = min-le_left i (length ns) in
    omega (arith, within, size, low)

-- depths before a position
depth_before : (ns : List Node) (i k : ℕ) → k < i → depth_of (take i ns) k ≡ depth_of ns k
depth_before [] zero k less = absurd (omega (arith, less))
depth_before [] (suc i) k less = refl
depth_before (n ∷ ns) zero k less = absurd (omega (arith, less))
depth_before (n ∷ ns) (suc i) zero less = refl
depth_before (n ∷ ns) (suc i) (suc k) less = depth_before ns i k (omega (arith, less))

pub nearest_says : (ns : List Node) → is_forest ns ≡ true → (i : ℕ) (n : Node) → i < length ns → n ≡ get_or ns i n → (o : Option ℕ) → o ≡ last_less n.depth (take i ns)
    → (d : Place) → origin_in (origins_of ns) (place_at (origins_of ns) i d) ≡ option_map (λ r. place_at (origins_of ns) r d) o
nearest_says ns forest i n within read o is d = by o is
  where
    here : depth_of ns i ≡ n.depth
    here = depth_of_read ns i n within ∙ ap (λ m. m.depth) (sym read)

    size : length (take i ns) ≡ i
    size = length-take-le i ns (omega (arith, within))

    before : last_less n.depth (take i ns) ≡ None → (k : ℕ) → k < i → n.depth ≤ depth_of ns k
    before none k less =
        let e = none_says n.depth (take i ns) none k (omega (arith, size, less)) in
        let same = depth_before ns i k less in
        omega (arith, e, same)

    root : (depth : ℕ) → n.depth ≡ depth → last_less n.depth (take i ns) ≡ None → origin_in (origins_of ns) (place_at (origins_of ns) i d) ≡ None
    root zero same none = root_has_none ns forest i within (here ∙ same) d
    root (suc depth) same none = absurd (never ns forest i n.depth within (sym here) (λ zero_is. omega (arith, same, zero_is)) (before none))

    by : (o : Option ℕ) → o ≡ last_less n.depth (take i ns) → origin_in (origins_of ns) (place_at (origins_of ns) i d) ≡ option_map (λ r. place_at (origins_of ns) r d) o
    by None is = root n.depth refl (sym is)
    by (Some r) is =
        let last = some_says n.depth (take i ns) r (sym is) in
        let in_front = last.within in
        let less : r < i = omega (arith, in_front, size) in
        let low = last.low in
        let there = depth_before ns i r less in
        nearest_is_origin ns forest r i n.depth less within (sym here) (omega (arith, low, there))
        (λ k more upto. let e = last.behind k more (omega (arith, size, upto)) in let same = depth_before ns i k upto in omega (arith, e, same)) d

-- the place of the node that is nearest is the origin
pub nearest_place : (ns : List Node) → is_forest ns ≡ true → (i : ℕ) → i < length ns → (p : Option Place) → p ≡ option_map (λ r. (get_or ns r blank).place) (origin_at ns i blank) → IsOriginAt (origins_of ns) i p
nearest_place ns forest i within p is = by (origin_at ns i blank) refl is
  where
    n : Node
    n = get_or ns i blank

    read : n ≡ get_or ns i n
    read = get_or_default ns i blank n within

    by : (o : Option ℕ) → o ≡ origin_at ns i blank → p ≡ option_map (λ r. (get_or ns r blank).place) o → IsOriginAt (origins_of ns) i p
    by None same none = record {
      is = λ d. nearest_says ns forest i n within read None same d ∙ sym none;
      stands = λ q is. let wrong : None ≡ Some q = sym none ∙ is in absurd (cc wrong);
    }
    by (Some r) same some =
        let before = nearest_before ns i n.depth (Some r) same in
        let inside : r < length ns = omega (arith, before, within) in
        let at : (d : Place) → (get_or ns r blank).place ≡ place_at (origins_of ns) r d = λ d. node_place ns r (get_or ns r blank) inside (get_or_default ns r blank (get_or ns r blank) inside) d in
        let size = length-links [] ns in
        record {
          is = λ d. nearest_says ns forest i n within read (Some r) same d ∙ ap Some (sym (at d)) ∙ sym some;
          stands = λ q is. subst (λ x. list_any (λ o. same_place x o.0) (origins_of ns) ≡ true) (sym (at q) ∙ same_Some (get_or ns r blank).place q (sym some ∙ is)) (listed_at (origins_of ns) r q (omega (arith, size, inside)));
        }
