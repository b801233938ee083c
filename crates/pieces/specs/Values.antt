-- What a piece finds out: the nodes that it keeps, a status, and answers.
use Rattle.std.specs.Prelude.{ℕ, Bool, List, [], map, filter, is_some}
use Rattle.std.specs.List.{zip}
use Rattle.fpage.specs.Rights.{no_rights}
use Rattle.fpage.specs.declared.rights.Rights.{Rights}
use Rattle.space.specs.declared.node.Node.{Node}
use Rattle.pieces.specs.Contents.{StripContent}
use Rattle.pieces.specs.Steps.{entry_in, narrowed_by, status_in, may_access}
use Rattle.pieces.specs.declared.piece.Piece.{Piece}
use Rattle.pieces.specs.declared.piece.Piece.TheVariants as piece

-- the nodes that are kept, in order; the union of the status that was found; and whether each access may be made, in order
pub record Value : Type 0 where
  pub kept : List Node
  pub status : Rights
  pub answers : List Bool

-- nothing kept, no status, no answers
abbrev pub no_value : Value
no_value = record { kept = []; status = no_rights; answers = [] }

-- whether a word is not 0 after its narrow
abbrev pub remains : List ℕ → ℕ → Rights → Bool
remains w i mask = is_some (narrowed_by mask (entry_in w i))

-- the nodes of a strip whose word is not 0 afterwards
abbrev pub kept_nodes : List ℕ → StripContent → List Node
kept_nodes w s = map (λ e. e.0) (filter (λ e. remains w e.1.0 e.1.1) (zip s.nodes (zip s.indexes s.masks)))

-- the value of a piece, by the words at opening
abbrev pub value : List ℕ → Piece → Value
value w (piece.Strip s) = record no_value { kept = kept_nodes w s; status = status_in w s.indexes }
value w (piece.Link stores) = no_value
value w (piece.Move pairs) = no_value
value w (piece.Touch list) = record no_value { answers = map (may_access w) list }
