-- What the notes of a call tell a program in C.
use Rattle.std.specs.Prelude.{◌≡◌, ⊤, ℕ, Bool, Option, Some, None, if◌then◌else◌, List, map, length, take, drop}
use Rattle.std.specs.Option.{option_map}
use Rattle.space.specs.declared.place.Place.{Place}
use Rattle.mapdb.specs.Held.{NoteContent, NotesTell}
use Rattle.mapdb.specs.State.{State}
use Rattle.c_handle.specs.Codes.{done, is_empty, is_halted_code}
use Rattle.c_handle.specs.Held.{held_of}
use Rattle.c_handle.specs.Listed.{over}
use Rattle.c_handle.specs.Look.{entry_left}
use Rattle.c_handle.specs.declared.changes.ChangeReply.{ChangeReply}
use Rattle.c_handle.specs.declared.look.EntryReply.{EntryReply}
use Rattle.c_handle.specs.declared.kept.Kept.{Kept}

-- a page and an entry, in numbers
abbrev pub change_with : Place → EntryReply → ChangeReply
change_with p e = record { space = p.space; page = p.page; held = e.held; frame = e.frame; rights = e.rights }

-- a page, with what the database says that it holds
abbrev pub change_at : State → Place → ChangeReply
change_at s p = change_with p (entry_left s p.space p.page (record { held = 0; frame = 0; rights = 0; status = 0 }))

-- pages that were noted
abbrev pub changes_from : State → List NoteContent → List ChangeReply
changes_from s notes = map (λ n. change_at s n.place) notes

-- what stands after the changes of a handle were asked for: its code, the buffer, and how many were written
pub record AfterChanges : Type 0 where
  pub code : ℕ
  pub changes : List ChangeReply
  pub count : ℕ

-- nothing is written but where the handle holds a database that is not halted
abbrev pub changes_of : Option Kept → ℕ → List ChangeReply → ℕ → AfterChanges
changes_of None from old count = record { code = is_empty; changes = old; count = count }
changes_of (Some k) from old count =
    let found = changes_from k.database (drop from k.scratch.notes.list.items) in
    if k.database.is_halted then record { code = is_halted_code; changes = old; count = count }
    else record { code = done; changes = over found old; count = length (take (length old) found) }

-- what a database was told, of whether its calls are to note what they change
pub record IsAskedHere (k : Kept) (asked : Bool) (code : ℕ) (new : Option Kept) : Type 0 where
  pub code_is : code ≡ (if k.database.is_halted then is_halted_code else done)
  -- it holds what it held
  pub held : held_of new ≡ Some k.database
  -- and its calls do as they are told
  pub done_so : code ≡ done → option_map (λ n. n.scratch.notes.asked) new ≡ Some asked

-- the same of a handle
abbrev pub IsAsked : Option Kept → Bool → ℕ → Option Kept → Type 0
IsAsked None asked code new = (code ≡ is_empty) × (new ≡ None)
IsAsked (Some k) asked code new = IsAskedHere k asked code new

-- after a call that was done its notes tell what it changed, where they are asked for
abbrev pub IsTold : Option Kept → ℕ → Option Kept → Type 0
IsTold (Some k) code (Some n) = code ≡ done → NotesTell k.database.holdings n.database.holdings k.scratch.notes n.scratch.notes
IsTold (Some k) code None = ⊤
IsTold None code new = ⊤
