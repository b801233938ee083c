-- The text of an audit in parts.
use Rattle.std.specs.Prelude.{ℕ, List, [], ◌∷◌, ◌++◌, flat_map}
use Rattle.model.specs.Definitions.Holdings.{Holdings}

-- the bytes of the part at hand, and those behind it
pub record Parts : Type 0 where
  pub part : List ℕ
  pub rest : List ℕ

-- what is left to be told of spaces, of the first from a page on, where `held` says what a space holds from a page on
abbrev pub left_of : (ℕ → ℕ → Holdings) → List ℕ → ℕ → Holdings
left_of held [] page = []
left_of held (space ∷ spaces) page = held space page ++ flat_map (λ s. held s 0) spaces
