-- What pieces hold, as contracts see it.
use Rattle.std.specs.Prelude.{◌≡◌, ℕ, Bool, true, List, [], ◌∷◌, length, map, Option}
use Rattle.std.specs.List.{flat_map}
use Rattle.std.specs.Option.{option_map_or}
use Rattle.fpage.specs.declared.rights.Rights.{Rights}
use Rattle.space.specs.declared.node.Node.{Node}
use Rattle.pieces.specs.Distinct.{is_none_of, are_distinct}
use Rattle.pieces.specs.declared.link.Store.{Store}
use Rattle.pieces.specs.declared.moving.Pair.{Pair}

-- a part of a tree's list, with the rights that each node loses and the index of its word; and the index of the word that
-- gains their status, if there is one
pub record StripContent : Type 0 where
  pub nodes : List Node
  pub masks : List Rights
  pub indexes : List ℕ
  pub fold : Option ℕ

-- whether the fold word, if there is one, is none of these
abbrev pub is_fold_apart : Option ℕ → List ℕ → Bool
is_fold_apart fold is = option_map_or (is_none_of is) fold true

-- each node has a mask and a word of its own, and the fold word is none of these
pub record IsStrip (s : StripContent) : Type 0 where
  pub masks : length s.masks ≡ length s.nodes
  pub indexes : length s.indexes ≡ length s.nodes
  pub distinct : are_distinct s.indexes ≡ true
  pub apart : is_fold_apart s.fold s.indexes ≡ true

-- the indexes at which stores put
abbrev pub puts_of : List Store → List ℕ
puts_of stores = map (λ s. s.put) stores

-- the indexes at which pairs take and put
abbrev pub ends_of : List Pair → List ℕ
ends_of pairs = flat_map (λ p. p.taken ∷ p.put ∷ []) pairs
