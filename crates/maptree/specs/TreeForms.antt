-- The nodes of a tree in any of its forms.
use Rattle.std.specs.Prelude.{ℕ, Bool, List, [], ◌∷◌, if◌then◌else◌}
use Rattle.space.specs.declared.place.Place.{Place}
use Rattle.space.specs.declared.node.Node.{Node}
use Rattle.maptree.specs.declared.pair.Pair.{Pair}
use Rattle.maptree.specs.declared.tree_nodes.Form.{Form}
use Rattle.maptree.specs.declared.tree_nodes.Form.TheVariants as form

-- the nodes of a tree: for how many more there is room, and behind how many of them each part of the last cut stood
pub record Gapped : Type 0 where
  pub nodes : List Node
  pub room : ℕ
  pub gaps : List ℕ

-- the places of a root and of the node below it
abbrev pub root_of : Pair → Place
root_of p = record { space = p.root_space; page = p.root_page }

abbrev pub below_of : Pair → Place
below_of p = record { space = p.below_space; page = p.below_page }

-- a root and a node below it
abbrev pub two_nodes : Place → Place → List Node
two_nodes root below = record { place = root; depth = 0 } ∷ record { place = below; depth = 1 } ∷ []

abbrev pub nodes_of_pair : Pair → List Node
nodes_of_pair p = two_nodes (root_of p) (below_of p)

abbrev pub nodes_of_tree : Form → List Node
nodes_of_tree (form.Empty alloc promised) = []
nodes_of_tree (form.Root alloc place promised) = record { place = place; depth = 0 } ∷ []
nodes_of_tree (form.Pair alloc pair) = nodes_of_pair pair
nodes_of_tree (form.Listed listing) = listing.value.nodes.nodes

-- room for one node, if it was promised
abbrev pub promised_room : Bool → ℕ
promised_room promised = if promised then 1 else 0

-- behind a pair there is room for no node more without a list
abbrev pub room_of_tree : Form → ℕ
room_of_tree (form.Empty alloc promised) = promised_room promised
room_of_tree (form.Root alloc place promised) = promised_room promised
room_of_tree (form.Pair alloc pair) = 0
room_of_tree (form.Listed listing) = listing.value.nodes.room

-- where there is no list, a cut has left no gap
abbrev pub gaps_of_tree : Form → List ℕ
gaps_of_tree (form.Empty alloc promised) = []
gaps_of_tree (form.Root alloc place promised) = []
gaps_of_tree (form.Pair alloc pair) = []
gaps_of_tree (form.Listed listing) = listing.value.gaps.items
