-- Looks of a watcher are of moments that go on, and so it never goes back.
use Rattle.std.proofs.Common.{◌≡◌, ◌≢◌, ◌⊎◌, inl, inr, ⊎_elim, ℕ, ◌<◌, ◌≤◌, true, false, [], length, Option, Some, None, refl, ap, ◌∙◌, sym, subst, arith}
use Rattle.std.specs.Prelude.{slice_get}
use Rattle.std.specs.Option.{option_map_or}
use Rattle.std.proofs.lemmas.Bool.{true≢false}
use Rattle.fpage.specs.declared.rights.Rights.{Rights}
use Rattle.space.specs.Word.{is_pack}
use Rattle.pieces.specs.Distinct.{is_none_of}
use Rattle.pieces.specs.Phases.{changes}
use Rattle.pieces.specs.declared.piece.Piece.{Piece}
use Rattle.turns.specs.Laws.{MomentsGoOn}
use Rattle.turns.specs.Rules.{word_in, IsLooked}
use Rattle.turns.specs.SharedWords.{SharedContent, IsPhase}
use Rattle.turns.specs.Views.{AtLeast, IsNoted}
use Rattle.turns.specs.Works.{step_count}
use Rattle.turns.specs.Watching.{page_in, entry_with, entry_before, entry_after, WatcherContent, KnowsMore, KnowsTheEnd, HasSeen, HasSeenAllOf, IsMoment}
use Rattle.turns.specs.declared.view.Opening.{Opening}
use Rattle.turns.specs.declared.view.View.{View}
use Rattle.turns.proofs.Changes.{at_moment, before_or_after, changed_after}

-- of two looks the later is of no earlier moment
pub moments_go_on : MomentsGoOn
moments_go_on w v u x i j e f first more later p less = first.noted p less later.counts (more later.counts later.no_earlier)

-- ---- what a look is

-- the word that a look finds is that of an entry
pub packed_at : (s : SharedContent) (from to : View) (i word : ℕ) → from.opening ≡ s.opening → IsPhase s.opening → i < length s.opening.words → IsLooked i from word to → is_pack word ≡ true
packed_at s from to i word of phase within look = (at_moment s.opening phase look.counts i word within (look.found ∙ ap (λ o. word_in o look.counts i) of)).0

-- its moment
pub moment_of : (w v : WatcherContent) (from to : View) (i word : ℕ) (entry : Option (ℕ × Rights)) → from.opening ≡ w.shared.opening → from.notes ≡ w.notes → to.notes ≡ v.notes
    → IsPhase w.shared.opening → i < length w.shared.opening.words → IsLooked i from word to → entry ≡ page_in word → IsMoment w i entry v
moment_of w v from to i word entry of from_notes to_notes phase within look page = record {
  counts = look.counts;
  no_earlier = subst (λ ns. AtLeast ns look.counts) from_notes look.no_earlier;
  found = page ∙ (at_moment w.shared.opening phase look.counts i word within (look.found ∙ ap (λ o. word_in o look.counts i) of)).1;
  noted = λ p less. subst (λ ns. IsNoted ns p (look.counts p)) to_notes (look.noted p (subst (λ (o : Opening). p < length o.pieces) (sym of) less));
  kept = λ more all. subst (λ ns. AtLeast ns more) from_notes (look.kept more (subst (λ ns. AtLeast ns more) (sym to_notes) all));
}

-- before or after
pub one_of : (w v : WatcherContent) (i : ℕ) (entry : Option (ℕ × Rights)) → IsPhase w.shared.opening → i < length w.shared.opening.words → IsMoment w i entry v
    → (entry ≡ entry_before w.shared.opening i) ⊎ (entry ≡ entry_after w.shared.opening i)
one_of w v i entry phase within moment =
    ⊎_elim
    (λ same. inl (moment.found ∙ same))
    (λ later. inr (moment.found ∙ later moment.counts (λ p less. let a : ℕ = moment.counts p in omega arith)))
    (before_or_after w.shared.opening phase moment.counts i within)

-- never back
pub forward_of : (w v : WatcherContent) (i : ℕ) (entry : Option (ℕ × Rights)) → IsMoment w i entry v → HasSeen w i → entry ≡ entry_after w.shared.opening i
forward_of w v i entry moment seen = moment.found ∙ seen moment.counts moment.no_earlier

pub seen_of : (w v : WatcherContent) (i : ℕ) (entry : Option (ℕ × Rights)) → v.shared ≡ w.shared → IsPhase w.shared.opening → i < length w.shared.opening.words → IsMoment w i entry v
    → entry ≡ entry_after w.shared.opening i → entry_before w.shared.opening i ≢ entry_after w.shared.opening i → HasSeen v i
seen_of w v i entry same phase within moment is differ =
    ⊎_elim
    (λ before. absurd (differ (sym before ∙ sym moment.found ∙ is)))
    (λ later counts all.
    ap (λ (s : SharedContent). entry_with s.opening counts i) same ∙ later counts (λ p less. moment.noted p less counts all) ∙ sym (ap (λ (s : SharedContent). entry_after s.opening i) same))
    (before_or_after w.shared.opening phase moment.counts i within)

pub still_of : (w v : WatcherContent) → v.shared ≡ w.shared → KnowsMore w v → (j : ℕ) → HasSeen w j → HasSeen v j
still_of w v same more j seen counts all =
    ap (λ (s : SharedContent). entry_with s.opening counts j) same ∙ seen counts (more counts all) ∙ sym (ap (λ (s : SharedContent). entry_after s.opening j) same)

-- ---- receipts

-- a watcher that knows that a piece has ended has seen what this piece changed
pub told_of : (v : WatcherContent) → IsPhase v.shared.opening → (p : ℕ) → KnowsTheEnd v p → HasSeenAllOf v p
told_of v phase p told i changed = λ counts all. by (slice_get v.shared.opening.pieces p) refl changed counts (told counts all)
  where
    by : (o : Option Piece) → slice_get v.shared.opening.pieces p ≡ o → is_none_of (option_map_or changes o []) i ≡ false → (counts : ℕ → ℕ) → option_map_or (step_count v.shared.opening.words) o 0 ≤ counts p
        → entry_with v.shared.opening counts i ≡ entry_after v.shared.opening i
    by None is there counts full = absurd (true≢false there)
    by (Some q) is there counts full = changed_after v.shared.opening phase p q is i there counts full

-- a look of a watcher that has learnt something is one of the watcher that it was
pub then_looked : (w m v : WatcherContent) (i : ℕ) (entry : Option (ℕ × Rights)) → m.shared ≡ w.shared → KnowsMore w m → IsMoment m i entry v → IsMoment w i entry v
then_looked w m v i entry same more moment = record {
  counts = moment.counts;
  no_earlier = more moment.counts moment.no_earlier;
  found = moment.found ∙ ap (λ (s : SharedContent). entry_with s.opening moment.counts i) same;
  noted = λ p less. moment.noted p (subst (λ (s : SharedContent). p < length s.opening.pieces) (sym same) less);
  kept = λ counts all. more counts (moment.kept counts all);
}
