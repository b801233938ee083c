-- What a list of nodes has, in either form.
use Rattle.std.specs.Prelude.{ℕ, ◌≤◌, Bool, List, reverse, if◌then◌else◌}
use Rattle.smallvec.specs.SmallVec.{HasRoomFor}
use Rattle.space.specs.declared.node.Node.{Node}
use Rattle.maptree.specs.declared.node_list.Form.{Form}
use Rattle.maptree.specs.declared.node_list.Form.TheVariants.{Few, Many}
use Rattle.maptree.specs.Blocks.{nodes_in}

abbrev pub nodes_of_form : Form → List Node
nodes_of_form (Few nodes) = reverse nodes.items
nodes_of_form (Many blocks) = nodes_in blocks.value.blocks

-- so many insertions take no memory
abbrev pub HasRoom : Form → ℕ → Type 0
HasRoom (Few nodes) room = HasRoomFor nodes room
HasRoom (Many blocks) room = room ≤ blocks.value.room

-- nodes that stand with the last one first, or not, from the first one on
abbrev pub in_order : Bool → List Node → List Node
in_order backward nodes = if backward then reverse nodes else nodes
