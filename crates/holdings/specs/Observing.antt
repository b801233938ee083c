-- What an observer of a strip may know of its phase: what the words say, before the phase and after it.
use Rattle.std.specs.Prelude.{◌≡◌, ℕ, ◌<◌, List, length, slice_index, Some}
use Rattle.std.specs.Option.{option_map}
use Rattle.space.specs.declared.place.Place.{Place}
use Rattle.space.specs.Word as word
use Rattle.model.specs.Definitions.Holdings.{Holdings, at}
use Rattle.pieces.specs.Applied.{worked}
use Rattle.pieces.specs.Phases.{CanBeWorked}
use Rattle.pieces.specs.declared.piece.Piece.{Piece}
use Rattle.holdings.specs.Contents.{entry_of}
use Rattle.holdings.specs.Layout.{Layout, index_in}

-- words that say what is held, of each place that has one
pub record SayWhatIsHeld (layout : Layout) (h : Holdings) (words : List ℕ) : Type 0 where
  -- its word is one of them
  pub within : (p : Place) (i : ℕ) → index_in layout p ≡ Some i → i < length words
  -- and has frame, rights and status of what the place holds
  pub entries : (p : Place) (i : ℕ) → index_in layout p ≡ Some i → word.entry_of (slice_index words i) ≡ option_map entry_of (at h p)

-- a phase that leaves this of what is held
pub record IsPhaseOf (layout : Layout) (h left : Holdings) (words : List ℕ) (pieces : List Piece) : Type 0 where
  -- it has pieces
  pub some : 0 < length pieces
  -- which can be worked beside one another
  pub can : CanBeWorked words pieces
  -- the words at its beginning say what is held
  pub before : SayWhatIsHeld layout h words
  -- and with all steps done they say what is left
  pub after : SayWhatIsHeld layout left (worked words pieces)
