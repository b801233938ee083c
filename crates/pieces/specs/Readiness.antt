-- What is asked of words and pieces that are worked beside one another, as tests.
use Rattle.std.specs.Prelude.{ℕ, nat_lt, Bool, ◌&&◌, List, length, is_some}
use Rattle.std.specs.List.{flat_map, list_all}
use Rattle.space.specs.Word.{is_pack}
use Rattle.pieces.specs.Distinct.{is_none_of, are_distinct}
use Rattle.pieces.specs.Steps.{entry_in}
use Rattle.pieces.specs.Phases.{changes, folds, named, held, are_alike}
use Rattle.pieces.specs.declared.piece.Piece.{Piece}

-- there are words, they stand for entries, each index that a piece names has a word, where a page must be held one is, and all
-- pieces are touches, or none is
abbrev pub words_suit : List ℕ → List Piece → Bool
words_suit w ps =
    nat_lt 0 (length w) && list_all is_pack w && list_all (λ i. nat_lt i (length w)) (flat_map named ps) && list_all (λ i. is_some (entry_in w i)) (flat_map held ps) && are_alike ps

-- no index is changed twice, and none that is changed is that of a fold word
abbrev pub are_apart : List Piece → Bool
are_apart ps = are_distinct (flat_map changes ps) && list_all (is_none_of (flat_map changes ps)) (flat_map folds ps)
