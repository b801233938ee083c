-- The control word of an Unmap, and its reply words (L4 X.2, Unmap).
use Rattle.std.specs.Prelude.{ℕ, ◌+◌, ◌*◌, ◌/◌, ◌%◌, ◌==◌, ◌||◌, Bool, not, if◌then◌else◌, Result, Ok, Err}
use Rattle.fpage.specs.Rights.{number}
use Rattle.fpage.specs.declared.rights.Rights.{Rights}
use Rattle.fpage.specs.declared.error.FpageError.{FpageError}
use Rattle.fpage.specs.declared.error.FpageError.TheVariants.{BadControl}

-- k in bits 0 to 5: one less than the number of words (Unmap)
abbrev pub words_named : ℕ → ℕ
words_named control = control % 64 + 1

-- f in bit 6: whether the caller's own pages lose the rights too (Unmap)
abbrev pub is_flush : ℕ → Bool
is_flush control = control / 64 % 2 == 1

-- whether a control word that comes with so many words flushes, or its refusal
abbrev pub read_control : ℕ → ℕ → Result Bool FpageError
read_control control given =
    if not (control / 128 == 0) || not (given == words_named control) then Err BadControl else Ok (is_flush control)

-- what a control word tells: whether it flushes, and how many words it names
pub record ControlWord : Type 0 where
  pub flush : Bool
  pub words : ℕ

-- what a control word tells that names so many words, by whether it flushes, or its refusal
abbrev pub control_with : ℕ → Result Bool FpageError → Result ControlWord FpageError
control_with words (Ok flush) = Ok (record { flush = flush; words = words })
control_with words (Err e) = Err e

-- a word with status in place of its rights, all other bits as given (Unmap)
abbrev pub with_status : ℕ → Rights → ℕ
with_status word status = word / 8 * 8 + number status
