-- Watchers: what they may see of the words of a phase, and what they know of it.
use Rattle.std.specs.Prelude.{◌≡◌, ℕ, ◌<◌, ◌==◌, false, List, [], length, map, slice_get, Option, None, Some, option_map, if◌then◌else◌}
use Rattle.std.specs.List.{range_with_len}
use Rattle.std.specs.Option.{option_map_or}
use Rattle.atomic_table.specs.Seated.{TableId}
use Rattle.atomic_table.specs.Table.{Me}
use Rattle.fpage.specs.declared.rights.Rights.{Rights}
use Rattle.space.specs.Word.{entry_of}
use Rattle.pieces.specs.Applied.{applied, before, after}
use Rattle.pieces.specs.Distinct.{is_none_of}
use Rattle.pieces.specs.Phases.{changes}
use Rattle.turns.specs.Posts.{PostContent}
use Rattle.turns.specs.SharedWords.{SharedContent, IsSeat}
use Rattle.turns.specs.Turns.{steps_to_do}
use Rattle.turns.specs.Views.{AtLeast, IsNoted}
use Rattle.turns.specs.Works.{step_count}
use Rattle.turns.specs.declared.view.Opening.{Opening}
use Rattle.turns.specs.declared.view.View.{View}

-- ---- entries

-- frame and rights in a word, or none
abbrev pub page_in : ℕ → Option (ℕ × Rights)
page_in word = option_map (λ e. (e.frame, e.rights)) (entry_of word)

-- frame and rights at an index with so many steps of each piece done, at opening, and when all pieces are worked
abbrev pub entry_with : Opening → (ℕ → ℕ) → ℕ → Option (ℕ × Rights)
entry_with o counts i = before (applied o.words o.pieces counts) i

abbrev pub entry_before : Opening → ℕ → Option (ℕ × Rights)
entry_before o i = before o.words i

abbrev pub entry_after : Opening → ℕ → Option (ℕ × Rights)
entry_after o i = after o.words o.pieces i

-- ---- watchers

-- at which shared words, the number of the watcher, and what it knows: of pieces by their numbers, that at least so many steps
-- were done
pub record WatcherContent : Type 0 where
  pub shared : SharedContent
  pub number : ℕ
  pub notes : List (ℕ × ℕ)

-- it knows that the entry at an index is as after all steps, whatever steps are done from now on
abbrev pub HasSeen : WatcherContent → ℕ → Type 0
HasSeen w i = (counts : ℕ → ℕ) → AtLeast w.notes counts → entry_with w.shared.opening counts i ≡ entry_after w.shared.opening i

-- what the one knew the other knows
abbrev pub KnowsMore : WatcherContent → WatcherContent → Type 0
KnowsMore w v = (counts : ℕ → ℕ) → AtLeast v.notes counts → AtLeast w.notes counts

-- how many steps a piece has, by its number
abbrev pub steps_of_piece : SharedContent → ℕ → ℕ
steps_of_piece s p = option_map_or (step_count s.opening.words) (slice_get s.opening.pieces p) 0

-- it knows that all steps of a piece were done
abbrev pub KnowsTheEnd : WatcherContent → ℕ → Type 0
KnowsTheEnd w p = IsNoted w.notes p (steps_of_piece w.shared p)

-- so many watchers, of which none knows anything
abbrev pub new_watchers : SharedContent → ℕ → List WatcherContent
new_watchers s n = map (λ k. record { shared = s; number = k; notes = [] }) (range_with_len 0 n)

-- a seat with what a watcher knows
pub record IsWatcher (w : WatcherContent) (table : TableId) (me : Me (Unit {0}) View) : Type 0 where
  pub seat : IsSeat w.shared table me
  pub notes : me.0.notes ≡ w.notes
  pub below : w.number < w.shared.opening.watchers

-- the moment of a look, which found an entry and leaves the watcher so
pub record IsMoment (w : WatcherContent) (i : ℕ) (entry : Option (ℕ × Rights)) (v : WatcherContent) : Type 0 where
  -- how many steps of each piece were done then: no fewer than the watcher knew of
  pub counts : ℕ → ℕ
  pub no_earlier : AtLeast w.notes counts
  pub found : entry ≡ entry_with w.shared.opening counts i
  -- from then on the watcher knows of these steps, and of those that it knew of
  pub noted : (p : ℕ) → p < length w.shared.opening.pieces → IsNoted v.notes p (counts p)
  pub kept : KnowsMore w v

-- ---- receipts

-- at which shared words, and the number of the piece that has ended
pub record ReceiptContent : Type 0 where
  pub shared : SharedContent
  pub piece : ℕ

-- a seat that knows that all steps of a piece were done
pub record IsReceipt (r : ReceiptContent) (table : TableId) (me : Me (Unit {0}) View) : Type 0 where
  pub seat : IsSeat r.shared table me
  pub ended : IsNoted me.0.notes r.piece (steps_of_piece r.shared r.piece)

-- the receipt of a turn: there is one when its piece has ended
abbrev pub receipt_of : PostContent → Option ReceiptContent
receipt_of t = if t.steps == steps_to_do t then Some (record { shared = t.shared; piece = t.number }) else None

-- the indexes of the words that a piece narrows, puts or takes, by its number
abbrev pub changed_by : SharedContent → ℕ → List ℕ
changed_by s p = option_map_or changes (slice_get s.opening.pieces p) []

-- a watcher that was told that a piece has ended has seen each entry that it changed
abbrev pub HasSeenAllOf : WatcherContent → ℕ → Type 0
HasSeenAllOf w p = (i : ℕ) → is_none_of (changed_by w.shared p) i ≡ false → HasSeen w i
