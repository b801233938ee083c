-- The nodes of a strip that are kept, part by part.
use Rattle.std.specs.Prelude.{ℕ, List, map, filter}
use Rattle.std.specs.List.{zip}
use Rattle.fpage.specs.declared.rights.Rights.{Rights}
use Rattle.space.specs.declared.node.Node.{Node}
use Rattle.pieces.specs.Values.{remains}

-- of nodes with these words and masks those that are left with a right
abbrev pub nodes_kept : List ℕ → List Node → List ℕ → List Rights → List Node
nodes_kept w nodes is masks = map (λ e. e.0) (filter (λ e. remains w e.1.0 e.1.1) (zip nodes (zip is masks)))
