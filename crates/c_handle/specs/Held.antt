-- What a handle holds.
use Rattle.std.specs.Prelude.{Option}
use Rattle.std.specs.Option.{option_map}
use Rattle.c_handle.specs.declared.kept.Kept.{Kept}
use Rattle.c_handle.specs.declared.raw_box.RawBox.{RawBox}
use Rattle.std.specs.declared.alloc.Global.{Global}
use Rattle.mapdb.specs.State.{State}

-- the value of a box
abbrev pub boxed_value : RawBox Kept Global → Kept
boxed_value whole = whole.value

-- the database of a handle
abbrev pub held_of : Option Kept → Option State
held_of kept = option_map (λ k. k.database) kept
