-- The rule of shared words: they are those at opening with the steps that all seats together count.
use Rattle.std.specs.Prelude.{◌≡◌, ℕ, ◌<◌, ◌≤◌, true, false, List, [], ◌∷◌, length, map, slice_index, slice_get, bit_or, Option, None, Some}
use Rattle.std.specs.Option.{option_and_then}
use mathlib.Core.Option.{some}
use lib.ListN.{get_elem?}
use Rattle.pieces.specs.Distinct.{is_none_of, are_distinct}
use Rattle.pieces.specs.Effects.{Effect, keeps, adds, writes, done, word_after}
use Rattle.pieces.specs.Steps.{effects}
use Rattle.turns.specs.Writers.{AreApart}
use Rattle.turns.specs.Views.{count_in, names_in, counted, named, raised, AtLeast, IsNoted}
use Rattle.turns.specs.declared.view.Opening.{Opening}
use Rattle.turns.specs.declared.view.View.{View}

-- the steps of all pieces
abbrev pub steps_in : Opening → List (List Effect)
steps_in o = map (effects o.words) o.pieces

-- the word at an index with so many steps of each piece done
abbrev pub word_in : Opening → (ℕ → ℕ) → ℕ → ℕ
word_in o counts i = word_after (slice_index o.words i) i (done counts (steps_in o))

-- the shared words, each at its index
abbrev pub words_in : Opening → (ℕ → ℕ) → List ℕ
words_in o counts = map (word_in o counts) o.indexes

-- the rule, which holds between any two steps of any seats
pub record Holds (o : Opening) (words : List ℕ) (views : List View) : Type 0 where
  -- no step is lost, none is doubled and none invented: the words are those with the steps that are counted
  pub words_are : words ≡ words_in o (counted views)
  -- no piece is with two seats
  pub once : (p : ℕ) → named views p ≤ 1
  -- each piece of the phase is with exactly one seat
  pub each : (p : ℕ) → p < length o.pieces → named views p ≡ 1
  -- all seats are of this phase
  pub same : (k : ℕ) (v : View) → get_elem? views k ≡ some v → v.live ≡ true → v.opening ≡ o
  -- what a seat noted is still so: counts only grow
  pub noted : (k : ℕ) (v : View) → get_elem? views k ≡ some v → AtLeast v.notes (counted views)

-- ---- one step

-- the index of the word that a step is about
abbrev pub index_of : Effect → ℕ
index_of (keeps i) = i
index_of (adds i bits) = i
index_of (writes i word) = i

-- what it makes of this word
abbrev pub made : Effect → ℕ → ℕ
made (keeps i) word = word
made (adds i bits) word = bit_or word bits
made (writes i new) word = new

-- the next step of the first of these pieces, if it has one more
abbrev pub next_step : Opening → List (ℕ × ℕ) → Option Effect
next_step o [] = None
next_step o (c ∷ cs) = option_and_then (λ es. slice_get es c.1) (slice_get (steps_in o) c.0)

-- what is so of a phase from its opening on: a step that writes a word is alone with it, no word is shared twice, and every word
-- that a step is about is shared
pub record IsOpening (o : Opening) : Type 0 where
  pub apart : AreApart (steps_in o)
  pub distinct : are_distinct o.indexes ≡ true
  pub covers : (cs : List (ℕ × ℕ)) (e : Effect) → next_step o cs ≡ Some e → is_none_of o.indexes (index_of e) ≡ false

-- what a seat does next
pub record IsNext (v : View) (e : Effect) : Type 0 where
  pub live : v.live ≡ true
  pub step : next_step v.opening v.counts ≡ Some e

-- these counts are those of a seat, for the pieces that it has
abbrev pub AgreeWith : View → (ℕ → ℕ) → Type 0
AgreeWith v counts = (p : ℕ) → 0 < names_in p v.counts → counts p ≡ count_in p v.counts

-- what a seat finds at an index: that word with some steps of the other pieces, whichever these were
pub record IsSeen (i : ℕ) (v : View) (word : ℕ) : Type 0 where
  pub counts : ℕ → ℕ
  pub agree : AgreeWith v counts
  pub found : word ≡ word_in v.opening counts i

-- what a step about the word at an index finds, and what it leaves
pub record IsMade (i : ℕ) (v : View) (word : ℕ) (w : View) : Type 0 where
  pub view : w ≡ raised v
  pub seen : IsSeen i v word

-- ---- one look

-- what a look at the word at an index found and leaves: that word with so many steps of each piece done
pub record IsLooked (i : ℕ) (v : View) (word : ℕ) (w : View) : Type 0 where
  -- no fewer than the seat knew of
  pub counts : ℕ → ℕ
  pub no_earlier : AtLeast v.notes counts
  pub found : word ≡ word_in v.opening counts i
  -- from then on it knows of these, and of what it knew
  pub noted : (p : ℕ) → p < length v.opening.pieces → IsNoted w.notes p (counts p)
  pub kept : (more : ℕ → ℕ) → AtLeast w.notes more → AtLeast v.notes more
  -- nothing else changes
  pub view : w ≡ record v { notes = w.notes }
