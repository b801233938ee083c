-- The deques of a crew, and what its workers hold.
use Rattle.std.specs.Prelude.{◌≡◌, ℕ, ◌+◌, ◌-◌, ◌/◌, ◌==◌, ◌<◌, min, List, [], ◌∷◌, length, map, filter, get_or, Some, slice_get, if◌then◌else◌}
use Rattle.std.specs.List.{All, range_with_len}
use Rattle.std.specs.Option.{option_map_or}
use Rattle.std.specs.declared.alloc.Global.{Global}
use Rattle.std.specs.declared.vec.Vec.{Vec}
use Rattle.atomic_blocks.specs.Lent.{RowsId}
use Rattle.turns.specs.Closing.{numbers_of}
use Rattle.turns.specs.Posts.{PostContent}
use Rattle.turns.specs.SharedWords.{SharedContent}
use Rattle.turns.specs.Turns.{steps_to_do}
use Rattle.crew.specs.Hands.{all_parts, hand, weigh}
use Rattle.crew.specs.declared.hand.Hand.{Hand}

-- a deque that turns were dealt to: which it is, and their numbers
pub record DealtContent : Type 0 where
  pub deque : RowsId × Global
  pub put : List ℕ

-- a worker's own deque: the number of the worker, and what it knows of the deque
pub record OwnDequeContent : Type 0 where
  pub number : ℕ
  pub hand : Hand

-- a right to steal from the deque of the worker with this number, and what was stolen by it
pub record StealPassContent : Type 0 where
  pub number : ℕ
  pub taken : List ℕ

-- all that a worker holds
pub record WorkerContent : Type 0 where
  pub own : OwnDequeContent
  pub passes : List StealPassContent
  pub turns : List PostContent

-- which deques they are, by the numbers of their workers
abbrev pub deques_of : List DealtContent → List (RowsId × Global)
deques_of crew = map (λ d. d.deque) crew

-- a turn of this phase whose piece has no step left
abbrev pub IsEnded : SharedContent → PostContent → Type 0
IsEnded s t = (t.shared ≡ s) × (t.steps ≡ steps_to_do t)

-- the own deques of the workers, by the numbers of these
abbrev pub AreNumbered : List OwnDequeContent → Type 0
AreNumbered owns = (k : ℕ) (d : OwnDequeContent) → k < length owns → (get_or owns k d).number ≡ k

-- workers, from this number on
abbrev pub AreNumberedFrom : ℕ → List WorkerContent → Type 0
AreNumberedFrom n workers = (k : ℕ) (d : WorkerContent) → k < length workers → (get_or workers k d).own.number ≡ n + k

-- a pass on each of so many deques, by which nothing was stolen
abbrev pub new_passes : ℕ → List StealPassContent
new_passes n = map (λ k. record { number = k; taken = [] }) (range_with_len 0 n)

-- a number of each element, added up
abbrev pub summed : {X : Type 0} → (X → ℕ) → List X → ℕ
summed f [] = 0
summed f (x ∷ xs) = f x + summed f xs

-- so many rows, each of a pass on each of so many deques
pub record AreRows (n rows_there : ℕ) (rows : List (Vec StealPassContent Global)) : Type 0 where
  pub many : length rows ≡ rows_there
  pub each : All (λ row. row.items ≡ new_passes n) rows

-- the own deques of workers, numbered from this number on, each with so many parts, when nothing was taken yet
abbrev pub new_owns : ℕ → ℕ → List DealtContent → List OwnDequeContent
new_owns parts n [] = []
new_owns parts n (d ∷ ds) = record { number = n; hand = hand parts d.put [] } ∷ new_owns parts (n + 1) ds

-- a pass on the deque of a worker, by which nothing was stolen
abbrev pub pass_on : OwnDequeContent → StealPassContent
pass_on o = record { number = o.number; taken = [] }

-- when a pass on it was handed out
abbrev pub fewer : OwnDequeContent → OwnDequeContent
fewer o = record { number = o.number; hand = hand (o.hand.parts - 1) o.hand.put o.hand.taken }

-- to which of so many workers a turn is dealt, where each has so many side by side, and the last all others
abbrev pub worker_of : ℕ → ℕ → ℕ → ℕ
worker_of room workers n = min (n / room) (workers - 1)

-- the numbers that are dealt to one of them
abbrev pub share_of : ℕ → ℕ → ℕ → List ℕ → List ℕ
share_of room workers worker ns = filter (λ n. worker_of room workers n == worker) ns

-- turns with these numbers were dealt to so many deques
pub record AreDealt (room workers : ℕ) (ns : List ℕ) (deques : List DealtContent) : Type 0 where
  pub many : length deques ≡ workers
  pub each : (k : ℕ) (d : DealtContent) → k < length deques → (get_or deques k d).put ≡ share_of room workers k ns

-- what was stolen by all these passes weighs
abbrev pub stolen : (ℕ → ℕ) → List StealPassContent → ℕ
stolen h passes = summed {X = StealPassContent} (λ c. weigh h c.taken) passes

-- what all these workers took from their own deques weighs
abbrev pub took : (ℕ → ℕ) → List OwnDequeContent → ℕ
took h owns = summed {X = OwnDequeContent} (λ o. weigh h o.hand.taken) owns

-- what was dealt to all these deques weighs
abbrev pub dealt : (ℕ → ℕ) → List DealtContent → ℕ
dealt h crew = summed {X = DealtContent} (λ d. weigh h d.put) crew

-- the deque of a worker: it is the one that was dealt to, first in first out, and what was put is what was dealt to it
pub record IsOwnDeque (crew : List DealtContent) (number : ℕ) (deque : RowsId × Global) (flavor port : ℕ) (v : Hand) : Type 0 where
  pub dealt : slice_get crew number ≡ Some (record { deque = deque; put = v.put })
  pub fifo : flavor ≡ 0
  pub first : port ≡ 0
  pub has : 0 < v.parts

-- a worker's turns have ended. However numbers weigh, they weigh what it took from its own deque and stole from all others
pub record IsWorker (s : SharedContent) (crew : List DealtContent) (own : OwnDequeContent) (passes : List StealPassContent) (turns : List PostContent) : Type 0 where
  pub ended : All (IsEnded s) turns
  pub sums : (h : ℕ → ℕ) → weigh h (numbers_of turns) ≡ weigh h own.hand.taken + stolen h passes
  pub parts : own.hand.parts + length crew ≡ all_parts
  -- it has one pass on each deque
  pub many : length passes ≡ length crew
  pub numbers : (k : ℕ) (d : StealPassContent) → k < length passes → (get_or passes k d).number ≡ k

-- what was dealt to the deque of a worker
abbrev pub dealt_to : List DealtContent → ℕ → List ℕ
dealt_to crew k = option_map_or (λ d. d.put) (slice_get crew k) []

-- how many of these passes are on the deque of a worker
abbrev pub passes_on : ℕ → List StealPassContent → ℕ
passes_on k passes = summed {X = StealPassContent} (λ c. if c.number == k then 1 else 0) passes

-- what so many workers held, taken apart: their own deques, and the passes and turns of all
pub record AreApart (s : SharedContent) (crew : List DealtContent) (n : ℕ) (owns : List OwnDequeContent) (passes : List StealPassContent) (turns : List PostContent) : Type 0 where
  pub ended : All (IsEnded s) turns
  pub sums : (h : ℕ → ℕ) → weigh h (numbers_of turns) ≡ took h owns + stolen h passes
  pub many : length owns ≡ n
  pub numbers : AreNumbered owns
  pub parts : (k : ℕ) (d : OwnDequeContent) → k < length owns → (get_or owns k d).hand.parts + length crew ≡ all_parts
  -- each worker had a pass on each deque
  pub each : (k : ℕ) → k < length crew → passes_on k passes ≡ n
  pub within : All (λ c. c.number < length crew) passes

-- own deques when these passes were taken back
pub record AreTakenBack (owns : List OwnDequeContent) (passes : List StealPassContent) (after : List OwnDequeContent) : Type 0 where
  pub many : length after ≡ length owns
  pub numbers : AreNumbered after
  pub parts : (k : ℕ) (d : OwnDequeContent) → k < length owns → (get_or after k d).hand.parts ≡ (get_or owns k d).hand.parts + passes_on k passes
  pub sums : (h : ℕ → ℕ) → took h after ≡ took h owns + stolen h passes
