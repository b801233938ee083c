-- A node read from some of the nodes of a list.
use Rattle.std.proofs.Common.{◌≡◌, refl, Bool, false, ℕ, ◌+◌, ◌-◌, ◌<◌, ◌≤◌, true, List, [], length, take, drop, get_or, subst, sym, ap, ◌∙◌, arith}
use Rattle.std.proofs.lemmas.List.{get_or-take, get_or-drop, length-reverse}
use Rattle.space.specs.declared.place.Place.{Place}
use Rattle.space.specs.declared.node.Node.{Node}
use Rattle.maptree.specs.Origins.{Origins, place_at, HasDepth}
use Rattle.maptree.specs.Forms.{in_order}
use Rattle.maptree.specs.Nodes.{is_forest, origins_of}
use Rattle.space.proofs.Lists.{read_any}
use Rattle.maptree.proofs.Insertion.{depth_fits}
use Rattle.maptree.proofs.Positions.{node_place, node_depth, node_only, length-links}

-- the node at a position of a tree
pub record IsNodeAt (os : Origins) (i : ℕ) (n : Node) : Type 0 where
  pub place : (d : Place) → n.place ≡ place_at os i d
  pub only : (j : ℕ) (d : Place) → j < length os → place_at os j d ≡ n.place → j ≡ i
  pub depth : HasDepth os n.place n.depth
  pub upto : n.depth ≤ i

-- some nodes of a list have the node of a position that is among them
pub near_node : (ns near : List Node) (first i : ℕ) (d : Node) → near ≡ take (length near) (drop first ns) → first ≤ i → i - first < length near → i < length ns
    → get_or near (i - first) d ≡ get_or ns i (get_or near (i - first) d)
near_node ns near first i d some least inside within =
    let whole : first + (i - first) ≡ i = omega (arith, least) in
    ap (λ l. get_or l (i - first) d) some ∙ get_or-take (length near) (drop first ns) (i - first) d inside ∙ get_or-drop first ns (i - first) d
    ∙ ap (λ k. get_or ns k d) whole ∙ read_any ns i d (get_or near (i - first) d) within

-- the node that is read at a position
pub read_is : (ns : List Node) (i : ℕ) (n : Node) (os : Origins) → origins_of ns ≡ os → is_forest ns ≡ true → i < length os → n ≡ get_or ns i n → IsNodeAt os i n
read_is ns i n os is forest within same =
    let size = ap length is in
    let count = length-links [] ns in
    let inner : i < length ns = omega (arith, size, count, within) in
    subst (λ os. IsNodeAt os i n) is (record {
      place = node_place ns i n inner same;
      only = node_only ns i n forest inner same;
      depth = node_depth ns i n forest inner same;
      upto = depth_fits ns i n forest inner same;
    })

in_order_length : (backward : Bool) (near : List Node) → length (in_order backward near) ≡ length near
in_order_length true near = length-reverse near
in_order_length false near = refl

-- and one that is read among some that may stand with the last one first
pub seen_is : (ns near : List Node) (backward : Bool) (first i : ℕ) (n : Node) → in_order backward near ≡ take (length near) (drop first ns) → first ≤ i
    → i - first < length near → i < length ns → n ≡ get_or (in_order backward near) (i - first) n → n ≡ get_or ns i n
seen_is ns near backward first i n some least inside within read =
    let size = in_order_length backward near in
    let some_more = subst (λ k. in_order backward near ≡ take k (drop first ns)) (sym size) some in
    subst (λ m. m ≡ get_or ns i m) (sym read) (near_node ns (in_order backward near) first i n some_more least (omega (arith, size, inside)) within)
