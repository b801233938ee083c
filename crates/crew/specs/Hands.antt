-- What those who use a deque of turns know of it.
use Rattle.std.specs.Prelude.{◌≡◌, ℕ, ◌+◌, ◌<◌, ◌≤◌, List, [], ◌∷◌, ◌++◌, length}
use Rattle.std.specs.List.{All}
use mathlib.Core.Option.{some}
use lib.ListN.{get_elem?}
use Rattle.turns.specs.Closing.{numbers_of}
use Rattle.turns.specs.Posts.{PostContent}
use Rattle.turns.specs.SharedWords.{SharedContent}
use Rattle.turns.specs.Views.{no_opening}
use Rattle.crew.specs.declared.hand.Hand.{Hand}

-- a phase of nothing
abbrev pub no_shared : SharedContent
no_shared = record { id = record { words = 0; slots = 0; views_name = 0; atom = 0; block = 0; offset = 0; slot_names = [] }; opening = no_opening }

-- into how many parts the right to know a whole deque is divided: more than a crew has workers
abbrev pub all_parts : ℕ
all_parts = 1024

abbrev pub hand : ℕ → List ℕ → List ℕ → Hand
hand parts put taken = record { parts = parts; put = put; taken = taken }

-- the weights of numbers, added up
abbrev pub weigh : (ℕ → ℕ) → List ℕ → ℕ
weigh h [] = 0
weigh h (n ∷ ns) = h n + weigh h ns

-- a number of each view, added up
abbrev pub total : (Hand → ℕ) → List Hand → ℕ
total f [] = 0
total f (v ∷ vs) = f v + total f vs

-- a turn of this phase, with no step done
abbrev pub IsFresh : SharedContent → PostContent → Type 0
IsFresh s t = (t.shared ≡ s) × (t.steps ≡ 0)

-- the rule: however numbers weigh, what was put weighs what was taken and what is there
pub record Balanced (s : SharedContent) (items : List PostContent) (views : List Hand) : Type 0 where
  pub fresh : All (IsFresh s) items
  pub weights : (h : ℕ → ℕ) → total (λ v. weigh h v.put) views ≡ total (λ v. weigh h v.taken) views + weigh h (numbers_of items)
  pub parts : total (λ v. v.parts) views ≡ all_parts
  -- who has no part took nothing, and none but the deque's worker puts
  pub idle : (k : ℕ) (v : Hand) → get_elem? views k ≡ some v → v.parts ≡ 0 → v.taken ≡ []
  pub owner : (k : ℕ) (v : Hand) → get_elem? views k ≡ some v → 0 < k → v.put ≡ []

-- these turns were taken: they are of this phase, with no step done
abbrev pub IsTaken : SharedContent → Hand → List PostContent → Hand → Type 0
IsTaken s v ts w = (w ≡ hand v.parts v.put (v.taken ++ numbers_of ts)) × All (IsFresh s) ts

-- no more was taken than was put
abbrev pub IsWithin : Hand → Type 0
IsWithin v = length v.taken ≤ length v.put

-- at one moment the deque was empty, while its worker knew this
abbrev pub WasEmpty : SharedContent → Hand → Type 0
WasEmpty s v = (views : List Hand) × Balanced s [] views × (get_elem? views 0 ≡ some v)
