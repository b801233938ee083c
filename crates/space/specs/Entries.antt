-- What becomes of one entry when a page loses rights, gains status or rights, or is accessed.
use Rattle.std.specs.Prelude.{Bool, false, not, ◌&&◌, Option, Some, None, if◌then◌else◌}
use Rattle.std.specs.Option.{option_map_or}
use Rattle.fpage.specs.Rights.{no_rights, is_empty, join, meet, without}
use Rattle.fpage.specs.declared.rights.Rights.{Rights}
use Rattle.space.specs.declared.place.Entry.{Entry}

-- the status of what stands at a place
abbrev pub status_of : Option Entry → Rights
status_of entry = option_map_or (λ e. e.status) entry no_rights

-- whether what stands at a place has one of some rights
abbrev pub has_any : Rights → Option Entry → Bool
has_any a entry = option_map_or (λ e. not (is_empty (meet e.rights a))) entry false

-- the rights that are left, if these are withheld
abbrev pub rights_left : Bool → Rights → Rights → Rights
rights_left flush a r = if flush then without r a else r

-- an entry from which rights are withheld, if they are, and whose status is cleared; nothing where it loses its last right
abbrev pub narrowed : Bool → Rights → Entry → Option Entry
narrowed flush a e =
    if flush && is_empty (rights_left flush a e.rights) then None else Some (record e { rights = rights_left flush a e.rights; status = no_rights })

-- what a page gets to which another is mapped: of its rights those that are let through, and no status
abbrev pub mapped : Rights → Entry → Entry
mapped through e = record e { rights = meet e.rights through; status = no_rights }

-- an entry that gained status
abbrev pub with_status : Rights → Entry → Entry
with_status status e = record e { status = join e.status status }

-- an entry that gained rights
abbrev pub extended : Rights → Entry → Entry
extended rights e = record e { rights = join e.rights rights }
