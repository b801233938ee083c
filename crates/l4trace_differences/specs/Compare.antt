-- What answers are compared with.
use Rattle.std.specs.Prelude.{◌≡◌, ℕ, List, Ok, Bool, true, false}
use Rattle.model.specs.Definitions.Text.{output_of}
use Rattle.l4trace_differences.specs.declared.comparison.Compared.{Compared}
use Rattle.l4trace_differences.specs.declared.comparison.Compared.TheVariants.{Same, Nothing, Differs}

-- the text is what is written for the trace that the bytes are
abbrev pub IsReplayOf : List ℕ → List ℕ → Type 0
IsReplayOf bytes text = output_of bytes ≡ Ok text

-- whether a comparison had lines, and found none that differs
abbrev pub is_same : Compared → Bool
is_same Same = true
is_same Nothing = false
is_same (Differs trees) = false
