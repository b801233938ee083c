-- What a function leaves of a list whose parts it is given side by side.
use Rattle.std.specs.Prelude.{◌≡◌, ℕ, ◌+◌, ◌++◌, List, length, Result, Ok}
use denote.Ref.{MutBor}

-- the function may be given each part of a list, and where that begins
abbrev pub MayChange : {T : Type 0} → (ℕ → MutBor (List T) → Type 0) → ℕ → List T → Type 0
MayChange {T} pre start xs = (front behind : List T) (part : MutBor (List T)) → front ++ part.now ++ behind ≡ xs → pre (start + length front) part

-- calls that succeed leave one list of another: one call of all of it, or some of its front and some of what stands behind
pub data IsChanged {T E : Type 0} (post : ℕ → MutBor (List T) → Result (Unit {0}) E → MutBor (List T) → Type 0) : ℕ → List T → List T → Type 0 where
  at_once : (start : ℕ) (before after : MutBor (List T)) → post start before (Ok tt) after → IsChanged post start before.now after.now
  in_two : (start : ℕ) (front front' behind behind' : List T) → IsChanged post start front front' → IsChanged post (start + length front) behind behind' → IsChanged post start (front ++ behind) (front' ++ behind')
