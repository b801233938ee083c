-- The end of a phase.
use Rattle.std.specs.Prelude.{◌≡◌, ℕ, ◌<◌, ◌≤◌, ◌==◌, Bool, true, false, not, List, [], ◌∷◌, ◌++◌, length, map, slice_index_or, if◌then◌else◌}
use Rattle.std.specs.Vec.{vec_capacity}
use Rattle.std.specs.declared.vec.Vec.{Vec}
use Rattle.std.specs.declared.alloc.Global.{Global}
use Rattle.pieces.specs.Distinct.{is_none_of}
use Rattle.pieces.specs.Dones.{DoneContent}
use Rattle.turns.specs.Posts.{PostContent}
use Rattle.turns.specs.SharedWords.{SharedContent}
use Rattle.turns.specs.Turns.{steps_to_do}
use Rattle.turns.specs.Views.{count_in}
use Rattle.turns.specs.Watching.{WatcherContent}
use Rattle.turns.specs.declared.open.Unended.{Unended}

-- room for what the turns hand in
pub record HasRoom (s : SharedContent) (flags watcher_flags : Vec Bool Global) (dones : Vec DoneContent Global) (unended : Vec Unended Global) : Type 0 where
  pub flag_each : length flags.items ≡ length s.opening.pieces
  pub watcher_each : length watcher_flags.items ≡ s.opening.watchers
  pub no_done : dones.items ≡ []
  pub done_each : length s.opening.pieces ≤ vec_capacity dones
  pub none_unended : unended.items ≡ []
  pub unended_each : length s.opening.pieces ≤ vec_capacity unended

-- the numbers of the pieces of turns
abbrev pub numbers_of : List PostContent → List ℕ
numbers_of ts = map (λ t. t.number) ts

-- the pieces of turns, each with how many of its steps were done
abbrev pub counts_of : List PostContent → List (ℕ × ℕ)
counts_of ts = map (λ t. (t.number, t.steps)) ts

-- how many steps turns made of a piece
abbrev pub steps_made : List PostContent → ℕ → ℕ
steps_made ts p = count_in p (counts_of ts)

-- what a turn hands in whose piece has steps left
abbrev pub unended_of : PostContent → List Unended
unended_of t = if t.steps == steps_to_do t then [] else record { piece = t.number; steps = t.steps } ∷ []

-- the numbers of the pieces that are in one of two lists: of those that have ended, and of those that have steps left
abbrev pub numbers_in : List DoneContent → List Unended → List ℕ
numbers_in ds us = map (λ d. d.number) ds ++ map (λ u. u.piece) us

-- each piece has a turn among these
abbrev pub AreAll : SharedContent → List PostContent → Type 0
AreAll s ts = (p : ℕ) → p < length s.opening.pieces → is_none_of (numbers_of ts) p ≡ false

-- a piece has none
abbrev pub OneIsWanting : SharedContent → List PostContent → Type 0
OneIsWanting s ts = (p : ℕ) × (p < length s.opening.pieces) × (is_none_of (numbers_of ts) p ≡ true)

-- the numbers of watchers
abbrev pub watcher_numbers : List WatcherContent → List ℕ
watcher_numbers ws = map (λ w. w.number) ws

-- each watcher of the phase is among these
abbrev pub AreAllWatchers : SharedContent → List WatcherContent → Type 0
AreAllWatchers s ws = (n : ℕ) → n < s.opening.watchers → is_none_of (watcher_numbers ws) n ≡ false

-- one is not
abbrev pub OneWatcherIsWanting : SharedContent → List WatcherContent → Type 0
OneWatcherIsWanting s ws = (n : ℕ) × (n < s.opening.watchers) × (is_none_of (watcher_numbers ws) n ≡ true)

-- these numbers are flagged, and no others
abbrev pub AreMarked : List Bool → List ℕ → Type 0
AreMarked flags ns = (p : ℕ) → p < length flags → (d : Bool) → slice_index_or flags p d ≡ not (is_none_of ns p)
