-- Seats at shared words.
use Rattle.std.proofs.Common.{◌≡◌, ℕ, ◌<◌, true, false, List, [], length, get_or, Some, refl, ap, ◌∙◌, sym, subst}
use Rattle.std.specs.Prelude.{slice_get}
use Rattle.std.proofs.lemmas.Option.{slice_get_within, get_or_from_slice_get}
use Rattle.atomic_table.specs.Seated.{TableId}
use Rattle.atomic_table.specs.Table.{State, Me, Allows, Splits, Joins, Seen}
use Rattle.pieces.specs.Distinct.{is_none_of}
use Rattle.pieces.specs.Effects.{Effect, done, words_after}
use Rattle.turns.specs.Rules.{steps_in, word_in, IsNext, IsMade, IsSeen, IsLooked, index_of, made, next_step}
use Rattle.turns.specs.SharedWords.{SharedContent, AreShared, IsSeat, replaced}
use Rattle.turns.specs.Views.{count_in, names_in, first_only, others_of, told, joined, spent}
use Rattle.turns.specs.declared.view.Opening.{Opening}
use Rattle.turns.specs.Tables.{Ruled}
use Rattle.turns.specs.declared.view.View.{View}
use Rattle.turns.proofs.Closing.{closes}
use Rattle.turns.proofs.Looking.{sees, looks, tells, fewest, fewest_noted, fewest_of}
use Rattle.turns.proofs.Replacing.{put_back_words, stays_same}
use Rattle.turns.proofs.Moves.{allows, deals, takes_back}

-- the word of the next step is shared
pub step_is_shared : (s : SharedContent) (ws is : List ℕ) → AreShared s ws is → (id : TableId) (me : Me (Unit {0}) View) → IsSeat s id me → (e : Effect) → IsNext me.0 e → is_none_of is (index_of e) ≡ false
step_is_shared s ws is shared id me seat e next = ap (λ at. is_none_of at (index_of e)) (sym shared.indexes) ∙ shared.phase.opening.covers me.0.counts e (ap (λ p. next_step p me.0.counts) (sym seat.opening) ∙ next.step)

-- it stands below the number of shared words
pub below : (s : SharedContent) (ws is : List ℕ) → AreShared s ws is → (j i : ℕ) → slice_get is j ≡ Some i → j < s.id.words
below s ws is shared j i at = subst (λ n. j < n) (sym shared.many) (slice_get_within is j i at)

-- a seat stays one when it makes a step
pub stays : (s : SharedContent) (id new : TableId) (me after : Me (Unit {0}) View) (i word : ℕ) → IsSeat s id me → new ≡ id → after.1 ≡ me.1 → IsMade i me.0 word after.0 → IsSeat s new after
stays s id new me after i word seat same empty made = record {
  id = same ∙ seat.id;
  opening = ap (λ (v : View). v.opening) made.view ∙ seat.opening;
  live = ap (λ (v : View). v.live) made.view ∙ seat.live;
  empty = empty ∙ seat.empty;
}

-- the index that stands at a position
pub placed : (s : SharedContent) (ws is : List ℕ) → AreShared s ws is → (id : TableId) (me : Me (Unit {0}) View) → IsSeat s id me → (j i : ℕ) → slice_get is j ≡ Some i → get_or me.0.opening.indexes j 0 ≡ i
placed s ws is shared id me seat j i at = ap (λ (o : Opening). get_or o.indexes j 0) seat.opening ∙ ap (λ js. get_or js j 0) shared.indexes ∙ get_or_from_slice_get is j i 0 at

-- a seat may make its next step
pub may : (s : SharedContent) (ws is : List ℕ) → AreShared s ws is → (slots seat_id : ℕ) (id : TableId) (me : Me (Unit {0}) View) → IsSeat s id me → (e : Effect) → IsNext me.0 e → (j : ℕ) → slice_get is j ≡ Some (index_of e)
    → (id ≡ s.id) × (j < s.id.words) × Allows (Ruled s.opening) slots seat_id me j (made e) (λ found after. (after.1 ≡ me.1) × IsMade (get_or me.0.opening.indexes j 0) me.0 found after.0)
may s ws is shared slots seat_id id me seat e next j at =
    let made_at : get_or me.0.opening.indexes j 0 ≡ index_of e = placed s ws is shared id me seat j (index_of e) at in (
      seat.id,
      below s ws is shared j (index_of e) at,
      subst
          (λ i. Allows (Ruled s.opening) slots seat_id me j (made e) (λ found after. (after.1 ≡ me.1) × IsMade i me.0 found after.0))
          (sym made_at)
          (allows s.opening shared.phase.opening slots seat_id me.0 me.1 e j seat.opening next (ap (λ js. slice_get js j) shared.indexes ∙ at)),
    )

pub some_words : (s : SharedContent) (ws is : List ℕ) → AreShared s ws is → 0 < s.id.words
some_words s ws is shared = subst (λ n. 0 < n) (sym shared.many) shared.some

-- a seat may be dealt
pub splits : (s : SharedContent) (ws is : List ℕ) → AreShared s ws is → (seat_id : ℕ) (id : TableId) (me : Me (Unit {0}) View) → IsSeat s id me
    → (id ≡ s.id) × (0 < s.id.words) × Splits {S = Unit {0}} (Ruled s.opening) seat_id me.0 (others_of me.0) (first_only me.0)
splits s ws is shared seat_id id me seat = (seat.id, some_words s ws is shared, deals s.opening seat_id me.0)

-- a seat may be taken back
pub joins : (s : SharedContent) (ws is : List ℕ) → AreShared s ws is → (seat_id other_id : ℕ) (id other : TableId) (me theirs : Me (Unit {0}) View) → IsSeat s id me → IsSeat s other theirs
    → (id ≡ s.id) × (other ≡ s.id) × (theirs.1 ≡ []) × (0 < s.id.words) × Joins {S = Unit {0}} (Ruled s.opening) seat_id me.0 other_id theirs.0 (joined me.0 theirs.0) spent
joins s ws is shared seat_id other_id id other me theirs seat seat_other =
    (seat.id, seat_other.id, seat_other.empty, some_words s ws is shared, takes_back s.opening seat_id me.0 other_id theirs.0 seat.live)

-- the words at the end, with the shared words put back
pub finished : (s : SharedContent) (ws is : List ℕ) → AreShared s ws is → (end : State (Unit {0}) View) (k : ℕ) (v : View) → Seen (Ruled s.opening) k v end → ((p : ℕ) → p < length s.opening.pieces → 0 < names_in p v.counts)
    → (shared_words : List ℕ) → end.words ≡ shared_words → replaced ws is shared_words ≡ words_after s.opening.words (done (λ p. count_in p v.counts) (steps_in s.opening))
finished s ws is shared end k v seen names shared_words same =
    ap (λ js. replaced ws js shared_words) (sym shared.indexes) ∙ ap (λ us. replaced us s.opening.indexes shared_words) (sym shared.words)
    ∙ put_back_words s.opening shared.phase.opening (λ p. count_in p v.counts) shared_words (sym same ∙ closes s.opening end.words end.views k v seen.0 seen.1 names)

-- a seat that only knows may be dealt
pub splits_told : (s : SharedContent) (ws is : List ℕ) → AreShared s ws is → (seat_id : ℕ) (id : TableId) (me : Me (Unit {0}) View) → IsSeat s id me
    → (id ≡ s.id) × (0 < s.id.words) × Splits {S = Unit {0}} (Ruled s.opening) seat_id me.0 me.0 (told me.0)
splits_told s ws is shared seat_id id me seat = (seat.id, some_words s ws is shared, tells s.opening seat_id me.0)

-- a seat may look
pub may_look : (s : SharedContent) (ws is : List ℕ) → AreShared s ws is → (slots seat_id : ℕ) (id : TableId) (me : Me (Unit {0}) View) → IsSeat s id me → (j i : ℕ) → slice_get is j ≡ Some i
    → (id ≡ s.id) × (j < s.id.words) × Allows (Ruled s.opening) slots seat_id me j (λ n. n) (λ found after. (after.1 ≡ me.1) × IsLooked (get_or me.0.opening.indexes j 0) me.0 found after.0)
may_look s ws is shared slots seat_id id me seat j i at = (
  seat.id,
  below s ws is shared j i at,
  subst
      (λ k. Allows (Ruled s.opening) slots seat_id me j (λ n. n) (λ found after. (after.1 ≡ me.1) × IsLooked k me.0 found after.0))
      (sym (placed s ws is shared id me seat j i at))
      (looks s.opening slots seat_id me.0 me.1 j i seat.opening (ap (λ js. slice_get js j) shared.indexes ∙ at)),
)

-- and of it note nothing
pub may_see : (s : SharedContent) (ws is : List ℕ) → AreShared s ws is → (slots seat_id : ℕ) (id : TableId) (me : Me (Unit {0}) View) → IsSeat s id me → (j i : ℕ) → slice_get is j ≡ Some i
    → (id ≡ s.id) × (j < s.id.words) × Allows (Ruled s.opening) slots seat_id me j (λ n. n) (λ found after. (after ≡ me) × IsSeen (get_or me.0.opening.indexes j 0) me.0 found)
may_see s ws is shared slots seat_id id me seat j i at = (
  seat.id,
  below s ws is shared j i at,
  subst
      (λ k. Allows (Ruled s.opening) slots seat_id me j (λ n. n) (λ found after. (after ≡ me) × IsSeen k me.0 found))
      (sym (placed s ws is shared id me seat j i at))
      (sees s.opening slots seat_id me.0 me.1 j i seat.opening (ap (λ js. slice_get js j) shared.indexes ∙ at)),
)

-- it stays one when it looks
pub stays_looked : (s : SharedContent) (id new : TableId) (me after : Me (Unit {0}) View) (i word : ℕ) → IsSeat s id me → new ≡ id → after.1 ≡ me.1 → IsLooked i me.0 word after.0 → IsSeat s new after
stays_looked s id new me after i word seat same empty look = record {
  id = same ∙ seat.id;
  opening = ap (λ (v : View). v.opening) look.view ∙ seat.opening;
  live = ap (λ (v : View). v.live) look.view ∙ seat.live;
  empty = empty ∙ seat.empty;
}

-- a word that is not shared is at any moment as it was at opening
pub looks_elsewhere : (s : SharedContent) (ws is : List ℕ) → AreShared s ws is → (id : TableId) (me : Me (Unit {0}) View) → IsSeat s id me → (i : ℕ) → is_none_of is i ≡ true → IsLooked i me.0 (get_or ws i 0) me.0
looks_elsewhere s ws is shared id me seat i none = record {
  counts = fewest me.0.notes;
  no_earlier = fewest_noted me.0.notes;
  found =
      ap (λ us. get_or us i 0) (sym shared.words) ∙ stays_same s.opening shared.phase.opening (fewest me.0.notes) i (ap (λ js. is_none_of js i) shared.indexes ∙ none)
      ∙ ap (λ o. word_in o (fewest me.0.notes) i) (sym seat.opening);
  noted = λ p less more all. fewest_of me.0.notes more all p;
  kept = λ more all. all;
  view = refl;
}

-- at which words a seat is
pub shared_is : (s : SharedContent) (id : TableId) (me : Me (Unit {0}) View) → IsSeat s id me → record { id = id; opening = me.0.opening } ≡ s
shared_is s id me seat = λ i. record { id = seat.id i; opening = seat.opening i }
