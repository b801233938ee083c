-- What a monitor of one page may find while a word is unmapped.
use Rattle.std.specs.Prelude.{◌≡◌, ℕ, Bool, List, [], ◌∷◌, Option, Some, option_map}
use Rattle.fpage.specs.Fpage.{Flexpage}
use Rattle.fpage.specs.declared.rights.Rights.{Rights}
use Rattle.space.specs.declared.place.Place.{Place}
use Rattle.model.specs.Definitions.Holdings.{Holdings, at}
use Rattle.pieces.specs.declared.piece.Piece.{Piece}
use Rattle.mapdb.specs.Held.{index_in, IsPhaseOf}
use Rattle.mapdb.specs.State.{State, unmap_left}

-- frame and rights that a page holds, or none
abbrev pub found_in : Holdings → Place → Option (ℕ × Rights)
found_in h p = option_map (λ m. (m.frame, m.rights)) (at h p)

-- what an unmap of one word leaves of what a database holds
abbrev pub left_by : State → ℕ → Bool → Flexpage → Holdings
left_by old space flush fpage = unmap_left space flush (fpage ∷ []) old.holdings

-- words and pieces are of a phase that leaves this of what a database holds, and a page has this index
pub record IsBeside (old : State) (left : Holdings) (page : Place) (index : ℕ) (words : List ℕ) (pieces : List Piece) : Type 0 where
  pub at_index : index_in old.layout page ≡ Some index
  pub phase : IsPhaseOf old.layout old.holdings left words pieces
