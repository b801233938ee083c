-- The codes of the errors of calls.
use Rattle.std.specs.Prelude.{◌≡◌, ℕ, Result, Ok, Err}
use Rattle.fpage.specs.declared.error.FpageError.{FpageError}
use Rattle.model.specs.Definitions.Calls as calls
use Rattle.mapdb.specs.Calls.{refusal_of}
use Rattle.c_handle.specs.Codes.{done, is_halted_code, refusal_code}
use Rattle.c_handle.specs.declared.error.CallError.{CallError}
use Rattle.c_handle.specs.declared.error.CallError.TheVariants.{Refused, Halted}

-- the code of an error
abbrev pub error_code : CallError → ℕ
error_code (Refused r) = refusal_code (refusal_of r)
error_code Halted = is_halted_code

-- an error has the code of the refusal that a word's error is
abbrev pub HasCodeOf : FpageError → CallError → Type 0
HasCodeOf word e = error_code e ≡ refusal_code (calls.refusal_of word)

-- the code of a call that was done, or that had an error
abbrev pub result_code : {A : Type 0} → Result A CallError → ℕ
result_code (Ok x) = done
result_code (Err e) = error_code e
