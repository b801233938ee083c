-- What a clause sees of a reader or a writer of the standard library.
use Rattle.std.specs.Prelude.{Bool}
use Rattle.trace.specs.declared.stream.Std.{Std}

abbrev pub inner_of : {T : Type 0} → Std T → T
inner_of s = s.inner

-- whether a read or a write of it has failed
abbrev pub is_failed : {T : Type 0} → Std T → Bool
is_failed s = s.failed
