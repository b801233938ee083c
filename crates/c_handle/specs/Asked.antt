-- What a call asks for: the same as the record of a trace with these fields.
use Rattle.std.specs.Prelude.{ℕ, ◌==◌, List, Option, Some, None, if◌then◌else◌}
use Rattle.std.specs.Option.{option_map}
use Rattle.fpage.specs.declared.rights.Access.{Access}
use Rattle.fpage.specs.declared.rights.Access.TheVariants.{Read, Write, Execute}
use Rattle.model.specs.Definitions.Calls.{Limits, Request}
use Rattle.model.specs.Definitions.Records.{are_item_words, send_request, unmap_request, access_request, clear_request}

-- a send; a bad record where the number of words is not served
abbrev pub send_asked : ℕ → ℕ → ℕ → List ℕ → Limits → Request
send_asked from to window words limits =
    send_request limits (if are_item_words words then Some (record { from = from; to = to; window = window; words = words }) else None)

-- an unmap
abbrev pub unmap_asked : ℕ → ℕ → List ℕ → Limits → Request
unmap_asked space control words limits = unmap_request limits (Some (record { space = space; control = control; words = words }))

-- a clear
abbrev pub clear_asked : ℕ → Limits → Request
clear_asked space limits = clear_request (Some space)

-- the kind of access that a number names
abbrev pub kind_of : ℕ → Option Access
kind_of number =
    if number == 4 then Some Read
    else if number == 2 then Some Write
    else if number == 1 then Some Execute
    else None

-- an access; a bad record where there is no such kind
abbrev pub access_asked : ℕ → ℕ → ℕ → Limits → Request
access_asked space address kind limits =
    access_request limits (option_map (λ k. record { space = space; address = address; kind = k }) (kind_of kind))
