-- The fpage that a base, a size and rights ask for.
use Rattle.std.specs.Prelude.{ℕ, ⊤, ◌/◌, ◌%◌, ◌==◌, ◌≤◌, ◌<◌, Result, Ok, Err, if◌then◌else◌}
use Rattle.fpage.specs.Fpage.{Flexpage, pages_of_space, read_sized}
use Rattle.fpage.specs.declared.rights.Rights.{Rights}
use Rattle.fpage.specs.declared.error.FpageError.{FpageError}
use Rattle.fpage.specs.declared.error.FpageError.TheVariants.{BadSize, Misaligned}
use Rattle.l4trace_texts.specs.declared.make.Size.{Size}
use Rattle.l4trace_texts.specs.declared.make.Size.TheVariants.{Nil, Complete, Bytes}

-- a size in bytes is that of a page at least, and has a place in a word
abbrev pub IsSize : Size → Type 0
IsSize Nil = ⊤
IsSize Complete = ⊤
IsSize (Bytes s) = (12 ≤ s) × (s < 64)

-- the size field of a word (s)
abbrev pub size_field : Size → ℕ
size_field Nil = 0
size_field Complete = 1
size_field (Bytes s) = s

-- an fpage without a base of its own
abbrev pub unless_based : ℕ → Flexpage → Result Flexpage FpageError
unless_based base f = if base == 0 then Ok f else Err BadSize

-- the fpage of a size from a base in units of 1024 bytes, or why there is none
abbrev pub sized_fpage : ℕ → ℕ → Rights → Size → Result Flexpage FpageError
sized_fpage bits base rights Nil = unless_based base (record { first = 0; count = 0; rights = rights })
sized_fpage bits base rights Complete = unless_based base (record { first = 0; count = pages_of_space bits; rights = rights })
sized_fpage bits base rights (Bytes s) = read_sized bits s base rights

-- the fpage of a size from a base in bytes; a word has no room for a base that is no multiple of 1024
abbrev pub asked_fpage : ℕ → ℕ → Rights → Size → Result Flexpage FpageError
asked_fpage bits base rights size = if base % 1024 == 0 then sized_fpage bits (base / 1024) rights size else Err Misaligned
