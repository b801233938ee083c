-- The replay of a trace: its records answered one by one, from the start.
use Rattle.std.specs.Prelude.{ℕ, zero, suc, ◌+◌, List, [], ◌∷◌, None}
use Rattle.fpage.specs.Rights.{all_rights, no_rights}
use Rattle.space.specs.declared.place.Place.{Place}
use Rattle.model.specs.Definitions.Holdings.{Held, Holdings}
use Rattle.model.specs.Definitions.Calls.{Limits, Reply, Request}
use Rattle.model.specs.Definitions.Answers.{Answer}

-- page i of space 0 as a root of frame i, with all rights
abbrev pub root : ℕ → Place × Held
root i = (record { space = 0; page = i }, record { frame = i; rights = all_rights; status = no_rights; origin = None })

-- so many roots from page i on
abbrev pub roots_from : ℕ → ℕ → Holdings
roots_from i zero = []
roots_from i (suc n) = root i ∷ roots_from (i + 1) n

-- the holdings at the start (profile)
abbrev pub start : Limits → Holdings
start limits = roots_from 0 limits.frames

-- the replies, and the last holdings
pub record Told : Type 0 where
  pub replies : List Reply
  pub last : Holdings

-- an answer before the rest
abbrev pub told_after : Answer → Told → Told
told_after a rest = record { replies = a.reply ∷ rest.replies; last = rest.last }

-- the requests one by one, each of what the one before left
abbrev pub replay : (Holdings → Request → Answer) → Holdings → List Request → Told
replay answer_one h [] = record { replies = []; last = h }
replay answer_one h (r ∷ rs) = let first = answer_one h r in told_after first (replay answer_one first.left rs)
