-- A trace in memory, whose records are read one after another.
use Rattle.std.specs.Prelude.{◌≡◌, ℕ, ◌+◌, ⊤, List, [], ◌∷◌, drop, Option, Some, None, Ok, Err}
use Rattle.fpage.specs.declared.rights.Access.{Access}
use Rattle.space.specs.declared.place.Place.{Place}
use Rattle.model.specs.Definitions.Calls.{Limits, Request, send, access, unmap, clear}
use Rattle.model.specs.Definitions.Records.{Fields, Version, header_fields, records_of, request}
use Rattle.trace.specs.Trace.{LacksHeader}
use Rattle.trace.specs.declared.read.TraceError.{TraceError}
use Rattle.trace.specs.declared.read.TraceError.TheVariants.{Unreadable, BadHeader, NoMemory}

-- the version and the limits that the header names, the number of the record that is next, and the records that are
-- left
pub record Unread : Type 0 where
  pub version : Version
  pub limits : Limits
  pub number : ℕ
  pub records : List Fields

-- the same, so many records later
abbrev pub past : ℕ → Unread → Unread
past n u = record { version = u.version; limits = u.limits; number = u.number + n; records = drop n u.records }

-- the header of the bytes was read, and nothing behind it
pub record IsOpened (bytes : List ℕ) (u : Unread) : Type 0 where
  pub header : Fields
  pub records : records_of bytes ≡ header ∷ u.records
  pub names : header_fields header ≡ Some (record { version = u.version; limits = u.limits })
  pub number : u.number ≡ 1

-- why the header of bytes in memory was not read
abbrev pub IsFaultIn : List ℕ → TraceError → Type 0
IsFaultIn bytes Unreadable = ⊥
IsFaultIn bytes BadHeader = LacksHeader bytes
IsFaultIn bytes NoMemory = ⊤

-- what the first of some records asks for, in a trace of a version
abbrev pub first_request : Version → Limits → List Fields → Option Request
first_request version limits [] = None
first_request version limits (fields ∷ rest) = Some (request version limits fields)

-- the access that is asked for, where that is one
abbrev pub access_in : Option Request → Option (Place × Access)
access_in None = None
access_in (Some (Err e)) = None
access_in (Some (Ok (send from to window items))) = None
access_in (Some (Ok (access place kind))) = Some (place, kind)
access_in (Some (Ok (unmap space flush words))) = None
access_in (Some (Ok (clear space))) = None

-- the access that a record asks for, where that is one: the version does not matter
abbrev pub IsAccessIn : Limits → Fields → Option (Place × Access) → Type 0
IsAccessIn limits fields found = (version : Version) → found ≡ access_in (Some (request version limits fields))
