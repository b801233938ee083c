-- The text of an audit, space by space.
use Rattle.std.specs.Prelude.{◌≡◌, ℕ, List, [], Result, Ok, Err, IfOk}
use Rattle.std.specs.declared.vec.Vec.{Vec}
use Rattle.std.specs.declared.alloc.AllocError.{AllocError}
use Rattle.std.specs.declared.alloc.Global.{Global}
use Rattle.model.specs.Definitions.Holdings.{Holdings}
use Rattle.model.specs.Definitions.Text.{audit_lines}

-- the text of some mappings, unless memory ran out
abbrev pub IsTextOf : Holdings → Result (Vec ℕ Global) AllocError → Type 0
IsTextOf mappings text = IfOk text (λ t. t.items ≡ audit_lines mappings)

-- the bytes of a text; none where memory ran out
abbrev pub bytes_in : Result (Vec ℕ Global) AllocError → List ℕ
bytes_in (Ok t) = t.items
bytes_in (Err e) = []
