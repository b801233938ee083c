-- Runs cut out of a derivation tree in parts, and what is kept of the parts put back.
use Rattle.std.specs.Prelude.{◌≡◌, ℕ, ◌+◌, ◌≤◌, true, Bool, List, [], ◌∷◌, ◌++◌, length, drop, map, filter, Some}
use Rattle.std.specs.List.{All, list_all, slice_range}
use Rattle.std.specs.declared.ops.Range.{Range}
use Rattle.space.specs.declared.place.Place.{Place}
use Rattle.space.specs.declared.node.Node.{Node}
use Rattle.space.specs.declared.slice.Slice.{Slice}
use Rattle.space.specs.Slices.{pieces, nodes_of}
use Rattle.maptree.specs.Origins.{Origins, Shape, origin_in, HasDepth}
use Rattle.maptree.specs.Nodes.{is_forest, origins_of}

-- the elements from a position on that lie in none of the ranges
abbrev pub outside : {A : Type 0} → ℕ → List (Range ℕ) → List A → List A
outside from [] xs = drop from xs
outside from (r ∷ rs) xs = slice_range xs from r.start ++ outside r.end rs xs

-- the elements of each range in pieces of so many
abbrev pub pieces_of : {A : Type 0} → ℕ → List (Range ℕ) → List A → List (List A)
pieces_of most [] xs = []
pieces_of most (r ∷ rs) xs = let run = slice_range xs r.start r.end in pieces (length run) most run ++ pieces_of most rs xs

-- the places of each part
abbrev pub places_of : List Slice → List (List Place)
places_of parts = map (λ s. map (λ n. n.place) s.nodes.items) parts

-- the nodes of each part that are kept
abbrev pub kept_of : (Place → Bool) → List (List Node) → List (List Node)
kept_of keep parts = map (λ ns. filter (λ n. keep n.place) ns) parts

-- parts put back between the nodes that were left, each behind so many of them
abbrev pub joined : ℕ → List Node → List ℕ → List (List Node) → List Node
joined from left [] parts = drop from left
joined from left (gap ∷ gaps) [] = drop from left
joined from left (gap ∷ gaps) (part ∷ parts) = slice_range left from gap ++ part ++ joined gap left gaps parts

-- numbers that do not fall, from one to another
abbrev pub AreGaps : ℕ → List ℕ → ℕ → Type 0
AreGaps from [] most = from ≤ most
AreGaps from (gap ∷ gaps) most = (from ≤ gap) × AreGaps gap gaps most

-- a list of nodes out of which parts were taken, with what is left of it and where the parts stood
pub record IsCutting (nodes left : List Node) (gaps : List ℕ) (parts : List Slice) : Type 0 where
  pub gaps_are : AreGaps 0 gaps (length left)
  pub each_part : length gaps ≡ length parts
  pub whole : joined 0 left gaps (nodes_of parts) ≡ nodes

-- the parts are the ranges of the tree, each range in pieces of at most so many nodes, and their nodes have the depths
-- that they have in the tree
pub record ArePartsOf (os : Origins) (ranges : List (Range ℕ)) (most : ℕ) (parts : List Slice) : Type 0 where
  pub places : places_of parts ≡ pieces_of most ranges (map (λ o. o.0) os)
  pub depths : All (λ s. All (λ n. HasDepth os n.place n.depth) s.nodes.items) parts

-- the tree is what a cut of such a tree left, when it took out these parts
pub record IsCut (os : Origins) (parts : List (List Node)) (tree : Shape) : Type 0 where
  -- the nodes that were left
  pub left : List Node
  pub tree_is : tree.links ≡ origins_of left
  pub forest : is_forest left ≡ true
  -- each part has its gap among them
  pub gaps : AreGaps 0 tree.gaps (length left)
  pub each_part : length tree.gaps ≡ length parts
  -- with the parts in the gaps they are the tree that was cut
  pub whole_is : os ≡ origins_of (joined 0 left tree.gaps parts)
  pub whole : is_forest (joined 0 left tree.gaps parts) ≡ true

-- the parts are all parts of the cut that left the tree, in their order, each with any nodes left out, and no node is
-- kept whose origin was left out
pub record AreKept (tree : Shape) (parts : List Slice) : Type 0 where
  -- the tree that was cut
  pub whole : Origins
  -- the parts as the cut gave them
  pub given : List (List Node)
  pub cut : IsCut whole given tree
  -- the places that are kept
  pub keep : Place → Bool
  pub kept : nodes_of parts ≡ kept_of keep given
  pub left : list_all (λ o. keep o.0) tree.links ≡ true
  pub origins : (p o : Place) → origin_in whole p ≡ Some o → keep p ≡ true → keep o ≡ true

-- how many nodes the parts have
abbrev pub count_of : List (List Node) → ℕ
count_of [] = 0
count_of (part ∷ parts) = length part + count_of parts
