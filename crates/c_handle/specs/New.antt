-- What becomes of a handle in which a database is to be made.
use Rattle.std.specs.Prelude.{◌≡◌, ◌⊎◌, ℕ, false, Option, Some, None}
use Rattle.model.specs.Definitions.Calls.{Limits}
use Rattle.model.specs.Definitions.Records.{are_limits}
use Rattle.mapdb.specs.Held.{Layout}
use Rattle.mapdb.specs.State.{State, laid_out, new_state}
use Rattle.c_handle.specs.Codes.{done, bad_limits, no_memory, holds_one}

-- an empty handle: it holds a new database, or is still empty, for want of memory or since the limits are not served
pub record IsMadeHere (limits : Limits) (code : ℕ) (new : Option State) : Type 0 where
  pub codes : (code ≡ done) ⊎ (code ≡ bad_limits) ⊎ (code ≡ no_memory)
  pub not_served : code ≡ bad_limits → are_limits limits ≡ false
  pub told : are_limits limits ≡ false → code ≡ bad_limits
  pub made : code ≡ done → (layout : Layout) × (new ≡ Some (laid_out (new_state limits) layout))
  pub refused : (code ≡ done → ⊥) → new ≡ None

-- a handle that holds a database keeps it
abbrev pub IsMade : Option State → Limits → ℕ → Option State → Type 0
IsMade None limits code new = IsMadeHere limits code new
IsMade (Some s) limits code new = (code ≡ holds_one) × (new ≡ Some s)
