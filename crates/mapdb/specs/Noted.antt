-- What the notes of a call tell.
use Rattle.std.specs.Prelude.{◌≡◌, ◌<◌, ◌≤◌, Bool, true, false, List, map, Option, Some, None}
use Rattle.space.specs.declared.place.Place.{Place}
use Rattle.model.specs.Definitions.Changes.{AreChanged}
use Rattle.model.specs.Definitions.Holdings.{Holdings}
use Rattle.holdings.specs.Noting.{AreNoted}
use Rattle.holdings.specs.NoteContents.{NoteContent}
use Rattle.holdings.specs.declared.notes.Notes.{Notes}
use Rattle.mapdb.specs.declared.told.HeldRun.{HeldRun}

-- the pages that are noted
abbrev pub noted_places : List NoteContent → List Place
noted_places notes = map (λ n. n.place) notes

-- whether a page was held before a call, as its first note says, or is held after it
abbrev pub is_told : Option Bool → Bool → Bool
is_told (Some true) held = true
is_told (Some false) held = held
is_told None held = held

-- a page is one of a run
pub record IsInRun (run : HeldRun) (p : Place) : Type 0 where
  pub space : p.space ≡ run.space
  pub from : run.start ≤ p.page
  pub before : p.page < run.end

-- what a note says of a page that is not held
abbrev pub unless_held : Bool → Option Bool → Option Bool
unless_held true said = None
unless_held false said = said

-- where some notes told what had changed when this is held, the others tell all of it, and no page that was held neither
-- before nor now
abbrev pub Tells : Holdings → List NoteContent → List NoteContent → Type 0
Tells now old new = (start : Holdings) → AreNoted start now old → AreChanged start now (noted_places new)

-- where notes are asked for: behind those that told what had changed before some phases, these tell all that changed, and
-- no page that was held neither before nor after
pub record NotesChange (old new : Holdings) (before after : Notes) : Type 0 where
  pub asked : after.asked ≡ before.asked
  pub changed : before.asked ≡ true → (start : Holdings) → AreNoted start old before.list.items → AreChanged start new (noted_places after.list.items)

-- what a call noted tells what it changed, where notes are asked for; what was noted before is forgotten
pub record NotesTell (old new : Holdings) (before after : Notes) : Type 0 where
  pub asked : after.asked ≡ before.asked
  pub told : before.asked ≡ true → AreChanged old new (noted_places after.list.items)
