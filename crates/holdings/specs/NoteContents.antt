-- A note, as contracts see it.
use Rattle.std.specs.Prelude.{Bool}
use Rattle.space.specs.declared.place.Place.{Place}

-- a page that a phase changes, and whether it held something before the phase
pub record NoteContent : Type 0 where
  pub place : Place
  pub was_held : Bool
