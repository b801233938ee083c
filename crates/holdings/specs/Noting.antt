-- What is noted of a call: pages that its phases change, and whether each held something before the phase.
use Rattle.std.specs.Prelude.{◌≡◌, Bool, true, List, [], ◌∷◌, Option, Some, None, if◌then◌else◌}
use Rattle.space.specs.declared.place.Place.{Place}
use Rattle.space.specs.Place.{same_place}
use Rattle.model.specs.Definitions.Holdings.{Holdings, is_held}
use Rattle.model.specs.Definitions.Changes.{tables_of}
use Rattle.holdings.specs.NoteContents.{NoteContent}
use Rattle.holdings.specs.declared.notes.Notes.{Notes}

-- what the first note of a page says
abbrev pub first_note : List NoteContent → Place → Option Bool
first_note [] p = None
first_note (n ∷ ns) p = if same_place p n.place then Some n.was_held else first_note ns p

-- a page without a note has the frame and the rights that it had; of any other the first note says whether it was held
pub record AreNoted (start now : Holdings) (notes : List NoteContent) : Type 0 where
  pub others : (p : Place) → first_note notes p ≡ None → tables_of now p ≡ tables_of start p
  pub held : (p : Place) (b : Bool) → first_note notes p ≡ Some b → is_held start p ≡ b

-- where notes are asked for: those that told what had changed before some phases tell it after them
pub record NotesFollow (old new : Holdings) (before after : Notes) : Type 0 where
  pub asked : after.asked ≡ before.asked
  pub noted : before.asked ≡ true → (start : Holdings) → AreNoted start old before.list.items → AreNoted start new after.list.items
