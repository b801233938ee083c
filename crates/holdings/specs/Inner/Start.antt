-- Words and trees at the start.
use Rattle.std.specs.Prelude.{ℕ, Option, Some, None, ◌==◌, ◌&&◌, nat_lt, if◌then◌else◌}
use Rattle.fpage.specs.Rights.{no_rights, all_rights}
use Rattle.space.specs.declared.place.Entry.{Entry}
use Rattle.space.specs.declared.place.Place.{Place}

-- the page of space 0 that holds a frame
abbrev pub root_place : ℕ → Place
root_place frame = record { space = 0; page = frame }

-- each of so many frames at the page of its number in space 0, with all rights
abbrev pub root_entry : ℕ → Place → Option Entry
root_entry frames p =
    if (p.space == 0) && nat_lt p.page frames then Some (record { frame = p.page; rights = all_rights; status = no_rights }) else None
