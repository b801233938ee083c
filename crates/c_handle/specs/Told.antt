-- An entry in numbers.
use Rattle.std.specs.Prelude.{Option, Some, None}
use Rattle.fpage.specs.Rights.{number}
use Rattle.space.specs.declared.place.Entry.{Entry}
use Rattle.c_handle.specs.declared.look.EntryReply.{EntryReply}

abbrev pub entry_numbers : Option Entry → EntryReply
entry_numbers None = record { held = 0; frame = 0; rights = 0; status = 0 }
entry_numbers (Some e) = record { held = 1; frame = e.frame; rights = number e.rights; status = number e.status }
