-- A derivation tree as a list of nodes in preorder, each with its depth: a node derives from the nearest one before it
-- that is one less deep.
use Rattle.std.specs.Prelude.{ℕ, suc, ◌+◌, ◌-◌, nat_le, nat_lt, Bool, true, ◌&&◌, not, List, [], ◌∷◌, length, take, drop, get_or, Option, Some, None, if◌then◌else◌}
use Rattle.std.specs.List.{list_all, prefix_len}
use Rattle.space.specs.declared.place.Place.{Place}
use Rattle.space.specs.Place.{same_place}
use Rattle.space.specs.declared.node.Node.{Node}
use Rattle.maptree.specs.Origins.{Origins}

-- depths of a preorder: none is more than one above the depth before it, nor the first above this one
abbrev pub are_depths : ℕ → List Node → Bool
are_depths most [] = true
are_depths most (n ∷ ns) = nat_le n.depth most && are_depths (n.depth + 1) ns

-- no node has the place
abbrev pub is_new : Place → List Node → Bool
is_new p ns = list_all (λ n. not (same_place p n.place)) ns

-- no place comes twice
abbrev pub are_distinct : List Node → Bool
are_distinct [] = true
are_distinct (n ∷ ns) = is_new n.place ns && are_distinct ns

-- a forest: the first node is a root, and no place comes twice
abbrev pub is_forest : List Node → Bool
is_forest ns = are_depths 0 ns && are_distinct ns

-- the origins of a node, nearest first, given those of the node before it with that node itself in front
abbrev pub above : Node → List Place → List Place
above n path = drop (length path - n.depth) path

-- the first of a list
abbrev pub first : List Place → Option Place
first [] = None
first (p ∷ ps) = Some p

-- each node's place with its origin, given the path to the node before
abbrev pub links : List Place → List Node → Origins
links path [] = []
links path (n ∷ ns) = (n.place, first (above n path)) ∷ links (n.place ∷ above n path) ns

-- the tree that a list of nodes is
abbrev pub origins_of : List Node → Origins
origins_of ns = links [] ns

-- how many nodes from the front on are deeper than this: those that derive from a node of this depth before them
abbrev pub run_len : ℕ → List Node → ℕ
run_len depth ns = prefix_len (λ n. nat_lt depth n.depth) ns

-- the last position of a list, with one node more in front
abbrev pub one_on : Bool → Option ℕ → Option ℕ
one_on here (Some r) = Some (suc r)
one_on here None = if here then Some 0 else None

-- the position of the last node that is less deep than this
abbrev pub last_less : ℕ → List Node → Option ℕ
last_less depth [] = None
last_less depth (n ∷ ns) = one_on (nat_lt n.depth depth) (last_less depth ns)

-- the position of the origin of the node at a position: of the last node before it that is less deep
abbrev pub origin_at : List Node → ℕ → Node → Option ℕ
origin_at ns i d = last_less (get_or ns i d).depth (take i ns)
