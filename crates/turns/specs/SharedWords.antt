-- The shared words of a phase, as contracts see them.
use Rattle.std.specs.Prelude.{◌≡◌, ℕ, ◌<◌, true, List, [], ◌∷◌, length, map, slice_set}
use Rattle.std.specs.List.{All}
use Rattle.std.specs.List.Sorted.{IsStrictlyIncreasing}
use Rattle.std.specs.Option.{option_to_list}
use Rattle.pieces.specs.declared.piece.Piece.{Piece}
use Rattle.pieces.specs.declared.piece.Piece.TheVariants as piece
use Rattle.atomic_table.specs.Seated.{TableId}
use Rattle.atomic_table.specs.Table.{Me}
use Rattle.pieces.specs.Phases.{CanBeWorked, IsPiece}
use Rattle.turns.specs.Rules.{IsOpening}
use Rattle.turns.specs.declared.view.Opening.{Opening}
use Rattle.turns.specs.declared.view.View.{View}

-- the pieces of a phase can be worked on the words at opening, and so they can step by step
pub record IsPhase (o : Opening) : Type 0 where
  pub opening : IsOpening o
  pub can : CanBeWorked o.words o.pieces
  pub each : All IsPiece o.pieces

-- which table it is, and what it was opened with
pub record SharedContent : Type 0 where
  pub id : TableId
  pub opening : Opening

-- a table of as many words as are shared, and each of these is one of all words
pub record AreShared (s : SharedContent) (ws is : List ℕ) : Type 0 where
  pub phase : IsPhase s.opening
  pub words : s.opening.words ≡ ws
  pub indexes : s.opening.indexes ≡ is
  pub many : s.id.words ≡ length is
  pub slots : s.id.slots ≡ 0
  pub some : 0 < length is
  pub within : All (λ i. i < length ws) is
  -- where somebody watches, a word is found by a search among rising indexes
  pub rise : 0 < s.opening.watchers → IsStrictlyIncreasing is

-- a seat at these words
pub record IsSeat (s : SharedContent) (table : TableId) (me : Me (Unit {0}) View) : Type 0 where
  pub id : table ≡ s.id
  pub opening : me.0.opening ≡ s.opening
  pub live : me.0.live ≡ true
  pub empty : me.1 ≡ []

-- the words at some indexes are replaced, one after another
abbrev pub replaced : List ℕ → List ℕ → List ℕ → List ℕ
replaced ws [] new = ws
replaced ws (i ∷ is) [] = ws
replaced ws (i ∷ is) (x ∷ new) = replaced (slice_set ws i x) is new

-- the indexes of the words at which a piece adds bits or looks: other pieces may name them too
abbrev pub common : Piece → List ℕ
common (piece.Strip s) = option_to_list s.fold
common (piece.Link stores) = []
common (piece.Move pairs) = []
common (piece.Touch list) = map (λ t. t.index) list
