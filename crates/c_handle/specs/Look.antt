-- What the functions that change nothing answer.
use Rattle.std.specs.Prelude.{ℕ, nat_lt, not, ◌==◌, Option, Some, None, if◌then◌else◌}
use Rattle.fpage.specs.Rights.{number}
use Rattle.space.specs.Directory.{pages_of}
use Rattle.space.specs.declared.place.Place.{Place}
use Rattle.model.specs.Definitions.Holdings.{Held, at, origin_at}
use Rattle.mapdb.specs.State.{State}
use Rattle.c_handle.specs.Codes.{done, is_empty, is_halted_code, no_such_space, out_of_space}
use Rattle.c_handle.specs.declared.look.EntryReply.{EntryReply}
use Rattle.c_handle.specs.declared.look.OriginReply.{OriginReply}

-- how a question about a space is answered by a database: the first that fits
abbrev pub space_code : State → ℕ → ℕ
space_code s space =
    if s.is_halted then is_halted_code
    else if not (nat_lt space s.limits.spaces) then no_such_space
    else done

-- how one about a page is answered
abbrev pub place_code : State → ℕ → ℕ → ℕ
place_code s space page =
    if s.is_halted then is_halted_code
    else if not (nat_lt space s.limits.spaces) then no_such_space
    else if not (nat_lt page (pages_of s.limits.bits)) then out_of_space
    else done

-- how it is answered by a handle
abbrev pub held_code : Option State → ℕ → ℕ → ℕ
held_code None space page = is_empty
held_code (Some s) space page = place_code s space page

-- what a page holds, in numbers
abbrev pub entry_told : Option Held → EntryReply
entry_told None = record { held = 0; frame = 0; rights = 0; status = 0 }
entry_told (Some m) = record { held = 1; frame = m.frame; rights = number m.rights; status = number m.status }

-- from where a page came, in numbers
abbrev pub origin_told : Option Place → OriginReply
origin_told None = record { known = 0; space = 0; page = 0 }
origin_told (Some p) = record { known = 1; space = p.space; page = p.page }

-- what stands in the caller's reply afterwards: it changes only where the call was done
abbrev pub entry_left : State → ℕ → ℕ → EntryReply → EntryReply
entry_left s space page old =
    if place_code s space page == done then entry_told (at s.holdings (record { space = space; page = page })) else old

abbrev pub origin_left : State → ℕ → ℕ → OriginReply → OriginReply
origin_left s space page old =
    if place_code s space page == done then origin_told (origin_at s.holdings (record { space = space; page = page })) else old

-- the same through a handle
abbrev pub held_entry : Option State → ℕ → ℕ → EntryReply → EntryReply
held_entry None space page old = old
held_entry (Some s) space page old = entry_left s space page old

abbrev pub held_origin : Option State → ℕ → ℕ → OriginReply → OriginReply
held_origin None space page old = old
held_origin (Some s) space page old = origin_left s space page old
