-- Which pieces may be worked beside one another, and on which words.
use Rattle.std.specs.Prelude.{◌≡◌, ℕ, ◌<◌, nat_lt, Bool, true, false, ◌||◌, not, List, [], ◌∷◌, ◌++◌, length, map, is_some}
use Rattle.std.specs.List.{flat_map, list_any, list_all, AllPass}
use Rattle.std.specs.Option.{option_to_list}
use Rattle.space.specs.Word.{is_pack}
use Rattle.pieces.specs.Distinct.{is_none_of, are_distinct}
use Rattle.pieces.specs.Contents.{IsStrip, puts_of, ends_of}
use Rattle.pieces.specs.Steps.{entry_in}
use Rattle.pieces.specs.declared.piece.Piece.{Piece}
use Rattle.pieces.specs.declared.piece.Piece.TheVariants as piece

-- the indexes that a piece narrows, puts or takes
abbrev pub changes : Piece → List ℕ
changes (piece.Strip s) = s.indexes
changes (piece.Link stores) = puts_of stores
changes (piece.Move pairs) = ends_of pairs
changes (piece.Touch list) = []

-- the index of its fold word, if there is one
abbrev pub folds : Piece → List ℕ
folds (piece.Strip s) = option_to_list s.fold
folds (piece.Link stores) = []
folds (piece.Move pairs) = []
folds (piece.Touch list) = []

-- all indexes that it names
abbrev pub named : Piece → List ℕ
named (piece.Strip s) = s.indexes ++ option_to_list s.fold
named (piece.Link stores) = flat_map (λ s. s.read ∷ s.put ∷ []) stores
named (piece.Move pairs) = ends_of pairs
named (piece.Touch list) = map (λ t. t.index) list

-- each index that a piece names has a word
abbrev pub NamesWords : List ℕ → Piece → Type 0
NamesWords words p = list_all (λ i. nat_lt i (length words)) (named p) ≡ true

-- those at which a page must be held: a fold word, a word that a store reads or that is taken
abbrev pub held : Piece → List ℕ
held (piece.Strip s) = option_to_list s.fold
held (piece.Link stores) = map (λ s. s.read) stores
held (piece.Move pairs) = map (λ p. p.taken) pairs
held (piece.Touch list) = []

-- whether it is a touch
abbrev pub is_touch : Piece → Bool
is_touch (piece.Strip s) = false
is_touch (piece.Link stores) = false
is_touch (piece.Move pairs) = false
is_touch (piece.Touch list) = true

-- whether it is a link
abbrev pub is_link : Piece → Bool
is_link (piece.Strip s) = false
is_link (piece.Link stores) = true
is_link (piece.Move pairs) = false
is_link (piece.Touch list) = false

-- whether all pieces are touches, or none is
abbrev pub are_alike : List Piece → Bool
are_alike ps = list_all is_touch ps || not (list_any is_touch ps)

-- what the type of a piece keeps
abbrev pub IsPiece : Piece → Type 0
IsPiece (piece.Strip s) = IsStrip s
IsPiece (piece.Link stores) = are_distinct (puts_of stores) ≡ true
IsPiece (piece.Move pairs) = are_distinct (ends_of pairs) ≡ true
IsPiece (piece.Touch list) = Unit {0}

-- how many nodes, stores, pairs or accesses it has
abbrev pub length_of : Piece → ℕ
length_of (piece.Strip s) = length s.nodes
length_of (piece.Link stores) = length stores
length_of (piece.Move pairs) = length pairs
length_of (piece.Touch list) = length list

-- what is asked of words and pieces that are worked beside one another, in any order of steps
pub record CanBeWorked (w : List ℕ) (ps : List Piece) : Type 0 where
  -- there are words, and they stand for entries
  pub some : 0 < length w
  pub packs : AllPass is_pack w
  -- each index that a piece names has a word, and where a page must be held one is
  pub within : list_all (λ i. nat_lt i (length w)) (flat_map named ps) ≡ true
  pub entries : list_all (λ i. is_some (entry_in w i)) (flat_map held ps) ≡ true
  -- a step that writes a word is alone with it
  pub distinct : are_distinct (flat_map changes ps) ≡ true
  pub apart : list_all (is_none_of (flat_map changes ps)) (flat_map folds ps) ≡ true
  -- what a touch sees changes under no other piece
  pub alike : are_alike ps ≡ true
