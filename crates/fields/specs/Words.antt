-- What the words of a call are read as.
use Rattle.std.specs.Prelude.{Result, Ok, Err}

-- a result with a value in place of its own, or with its error
abbrev pub with_value : {A B E : Type 0} → A → Result B E → Result A E
with_value x (Ok y) = Ok x
with_value x (Err e) = Err e
