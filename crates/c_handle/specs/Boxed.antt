-- A database in a box, with what its calls lend one another.
use Rattle.std.specs.declared.alloc.Global.{Global}
use Rattle.std.specs.declared.boxed.Box.{Box}
use Rattle.c_handle.specs.declared.kept.Kept.{Kept}

-- what is in the box
abbrev pub value_of : Box Kept Global → Kept
value_of whole = whole.value
