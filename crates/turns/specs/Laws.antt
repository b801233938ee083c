-- The laws of the rule.
use Rattle.std.specs.Prelude.{◌≡◌, ◌↔◌, ◌⊎◌, ℕ, ◌<◌, ◌≤◌, List, [], true, false, length, map, slice_index, slice_get, Option, Some}
use Rattle.std.specs.Int.{bit_at}
use Rattle.atomic_table.specs.Table.{Allows, Enters, Splits, Joins, opening}
use mathlib.Core.Option.{some}
use lib.ListN.{get_elem?}
use Rattle.fpage.specs.declared.rights.Rights.{Rights}
use Rattle.pieces.specs.Distinct.{is_none_of}
use Rattle.pieces.specs.Effects.{Effect, adds}
use Rattle.pieces.specs.Phases.{changes}
use Rattle.pieces.specs.declared.piece.Piece.{Piece}
use Rattle.turns.specs.Writers.{all_writers}
use Rattle.turns.specs.Views.{count_in, names_in, counted, first_view, first_only, others_of, told, entered, joined, spent}
use Rattle.turns.specs.Rules.{steps_in, words_in, Holds, IsOpening, IsNext, IsMade, IsLooked, index_of, made}
use Rattle.turns.specs.SharedWords.{IsPhase}
use Rattle.turns.specs.Tables.{Ruled}
use Rattle.turns.specs.Watching.{entry_with, entry_before, entry_after, WatcherContent, IsMoment, KnowsMore}
use Rattle.turns.specs.Works.{step_count}
use Rattle.turns.specs.declared.view.Opening.{Opening}
use Rattle.turns.specs.declared.view.View.{View}

-- at opening, with one seat that has all pieces and no step done, the rule holds of the words at opening
abbrev pub OpeningMeetsTheRule : Type 0
OpeningMeetsTheRule = (o : Opening) → Ruled o (opening {S = Unit {0}} (map (slice_index o.words) o.indexes) [] (first_view o))

-- whatever the shared words are, the next step of a seat's piece is allowed: it changes its word as the step says, raises the
-- seat's count by one, and finds the word with some steps of the other pieces
abbrev pub StepsKeepTheRule : Type 0
StepsKeepTheRule =
    (o : Opening) → IsOpening o → (slots id : ℕ) (v : View) (held : List (ℕ × Unit {0})) (e : Effect) (j : ℕ) → v.opening ≡ o → IsNext v e → slice_get o.indexes j ≡ Some (index_of e)
    → Allows (Ruled o) slots id (v, held) j (made e) (λ found after. (after.1 ≡ held) × IsMade (index_of e) v found after.0)

-- a seat may be dealt for the first piece of another
abbrev pub DealingKeepsTheRule : Type 0
DealingKeepsTheRule = (o : Opening) (id : ℕ) (v : View) → Splits {S = Unit {0}} (Ruled o) id v (others_of v) (first_only v)

-- a seat may be taken back
abbrev pub TakingBackKeepsTheRule : Type 0
TakingBackKeepsTheRule = (o : Opening) (id : ℕ) (v : View) (other : ℕ) (w : View) → v.live ≡ true → Joins {S = Unit {0}} (Ruled o) id v other w (joined v w) spent

-- a seat that has all pieces knows what the shared words are: no step is missing from its counts, and none is there that it does
-- not count
abbrev pub AllCountsTellTheWords : Type 0
AllCountsTellTheWords =
    (o : Opening) (words : List ℕ) (views : List View) (k : ℕ) (v : View) → Holds o words views → get_elem? views k ≡ some v → ((p : ℕ) → p < length o.pieces → 0 < names_in p v.counts)
    → words ≡ words_in o (λ p. count_in p v.counts)

-- a bit of a word is set; the lowest bit is bit 0
abbrev pub IsSet : ℕ → ℕ → Type 0
IsSet word b = bit_at word b ≡ 1

-- a step that was done adds a bit to the word at an index
pub record IsAddedAt (o : Opening) (counts : ℕ → ℕ) (i b : ℕ) : Type 0 where
  -- the number of its piece, and the steps of this piece
  pub p : ℕ
  pub steps : List Effect
  pub piece : slice_get (steps_in o) p ≡ Some steps
  -- which of these steps it is, among the first ones, which were done
  pub k : ℕ
  pub done : k < counts p
  -- the bits that it adds, with this bit among them
  pub bits : ℕ
  pub step : slice_get steps k ≡ Some (adds i bits)
  pub has : IsSet bits b

-- between any two steps, where no step of the phase writes a shared word: a bit of it is set exactly if it was set at opening, or
-- a step that was done adds it
abbrev pub BitsOfSharedWordsAreTold : Type 0
BitsOfSharedWordsAreTold =
    (o : Opening) (words : List ℕ) (views : List View) (j i b : ℕ) → Holds o words views → slice_get o.indexes j ≡ Some i → all_writers i (steps_in o) ≡ 0
    → (IsSet (slice_index words j) b ↔ (IsSet (slice_index o.words i) b ⊎ IsAddedAt o (counted views) i b))

-- ---- watchers

-- a seat may come that has no piece and knows nothing yet
abbrev pub EnteringKeepsTheRule : Type 0
EnteringKeepsTheRule = (o : Opening) (slots word : ℕ) → Enters {S = Unit {0}} (Ruled o) slots word (λ found v. v ≡ entered (first_view o))

-- a seat may look at any shared word: the word stays, and the seat finds it as it is with the steps that are done at this moment
abbrev pub LooksKeepTheRule : Type 0
LooksKeepTheRule =
    (o : Opening) (slots id : ℕ) (v : View) (held : List (ℕ × Unit {0})) (j i : ℕ) → v.opening ≡ o → slice_get o.indexes j ≡ Some i
    → Allows (Ruled o) slots id (v, held) j (λ n. n) (λ found after. (after.1 ≡ held) × IsLooked i v found after.0)

-- a seat may be dealt that has no piece and knows what another counts
abbrev pub TellingKeepsTheRule : Type 0
TellingKeepsTheRule = (o : Opening) (id : ℕ) (v : View) → Splits {S = Unit {0}} (Ruled o) id v v (told v)

-- with whatever steps done, an entry is as before all steps, or it is as after all of them and stays so, whatever steps come more
abbrev pub ChangesAreForGood : Type 0
ChangesAreForGood =
    (o : Opening) → IsPhase o → (counts : ℕ → ℕ) (i : ℕ) → i < length o.words
    → (entry_with o counts i ≡ entry_before o i)
    ⊎ ((more : ℕ → ℕ) → ((p : ℕ) → p < length o.pieces → counts p ≤ more p) → entry_with o more i ≡ entry_after o i)

-- with all steps of a piece done, each entry that it narrows, puts or takes is as after all steps
abbrev pub EndedPiecesHaveChanged : Type 0
EndedPiecesHaveChanged =
    (o : Opening) → IsPhase o → (p : ℕ) (q : Piece) → slice_get o.pieces p ≡ Some q → (i : ℕ) → is_none_of (changes q) i ≡ false → (counts : ℕ → ℕ) → step_count o.words q ≤ counts p
    → entry_with o counts i ≡ entry_after o i

-- of two looks of a watcher, at whatever entries, the later is of no earlier moment
abbrev pub MomentsGoOn : Type 0
MomentsGoOn =
    (w v u x : WatcherContent) (i j : ℕ) (e f : Option (ℕ × Rights)) (first : IsMoment w i e v) → KnowsMore v u → (later : IsMoment u j f x) → (p : ℕ) → p < length w.shared.opening.pieces
    → first.counts p ≤ later.counts p
