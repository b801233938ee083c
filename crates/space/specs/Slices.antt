-- A list in pieces, and the nodes of slices.
use Rattle.std.specs.Prelude.{ℕ, zero, suc, List, [], ◌∷◌, take, drop, map}
use Rattle.space.specs.declared.node.Node.{Node}
use Rattle.space.specs.declared.slice.Slice.{Slice}

-- a list in pieces of so many elements, of which the last may have fewer; the first number bounds how many pieces there are
abbrev pub pieces : {A : Type 0} → ℕ → ℕ → List A → List (List A)
pieces zero most xs = []
pieces (suc n) most [] = []
pieces (suc n) most (x ∷ xs) = take most (x ∷ xs) ∷ pieces n most (drop most (x ∷ xs))

-- the nodes of each part
abbrev pub nodes_of : List Slice → List (List Node)
nodes_of parts = map (λ s. s.nodes.items) parts
