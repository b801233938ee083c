-- One page more, until all are written or there is no room.
use Rattle.std.proofs.Common.{◌≡◌, ◌⊎◌, inl, inr, true, false, Bool, refl, nat_lt, ltb-true, ℕ, ◌+◌, ◌<◌, ◌≤◌, List, [], ◌∷◌, ◌++◌, length, take, drop, get_or, set, sym, ap, ◌∙◌, subst, arith}
use Rattle.std.proofs.lemmas.Bool.Decides.{nat_tests}
use Rattle.std.proofs.lemmas.List.{take-append-drop, take_all, take_more, map-append}
use Rattle.mapdb.specs.Held.{NoteContent}
use Rattle.mapdb.specs.State.{State}
use Rattle.c_handle.specs.Changed.{change_at, changes_from}
use Rattle.c_handle.specs.Listed.{IsWritten}
use Rattle.c_handle.specs.declared.changes.ChangeReply.{ChangeReply}
use Rattle.c_handle.proofs.Buffers.{written_none, written_more, written_full}
use Rattle.c_handle.proofs.changes.write_changes.Goals as goal

-- the pages before one more, and that one
one_more : (s : State) (notes : List NoteContent) (i : ℕ) (d : NoteContent) → i < length notes → changes_from s (take i notes) ++ change_at s (get_or notes i d).place ∷ [] ≡ changes_from s (take (i + 1) notes)
one_more s notes i d within = sym (ap (changes_from s) (take_more notes i d within) ∙ map-append (λ (n : NoteContent). change_at s n.place) (take i notes) (get_or notes i d ∷ []))

-- all pages, where none is left or there is no more room
all : (s : State) (notes : List NoteContent) (old new : List ChangeReply) (i : ℕ) → IsWritten old (changes_from s (take i notes)) new i → (length notes ≤ i) ⊎ (i ≡ length new) → IsWritten old (changes_from s notes) new i
all s notes old new i so_far (inl past) = subst (λ ns. IsWritten old (changes_from s ns) new i) (take_all i notes past) so_far
all s notes old new i so_far (inr full) =
    subst (λ xs. IsWritten old xs new i) (sym (map-append (λ (n : NoteContent). change_at s n.place) (take i notes) (drop i notes)) ∙ ap (changes_from s) (take-append-drop i notes))
    (written_full so_far full (changes_from s (drop i notes)))

pub loop-i-init : goal.loop-i-init
loop-i-init c = written_none c.args.changes.now

pub loop-i-preserved : goal.loop-i-preserved
loop-i-preserved c =
    let s : State = c.args.database.now in
    let notes = c.args.notes.now in
    let i = c.loop-i.i in
    let room : i < length c.loop-i.changes = omega (arith, c.loop-i-test.true, c.min-count.ensures, c.loop-i.auto.changes) in
    let within : i < length notes = omega (arith, c.loop-i-test.true, c.min-count.ensures) in
    subst (λ xs. IsWritten c.args.changes.now xs (set c.loop-i.changes i c.change_at.result) (i + 1)) (ap (λ x. changes_from s (take i notes) ++ x ∷ []) (c.change_at.ensures ∙ ap (change_at s) (c.place.ensures ∙ ap (λ (n : NoteContent). n.place) c.index-notes-i.is)) ∙ one_more s notes i c.index-notes-i.result within)
    (written_more c.loop-i.invariant room c.change_at.result)

pub returns : goal.returns
returns c =
    let s : State = c.args.database.now in
    let notes = c.args.notes.now in
    let end : c.loop-i.i ≡ c.min-count.result = omega (arith, c.loop-i-test.false, c.loop-i.auto.i-end) in
    subst (IsWritten c.args.changes.now (changes_from s notes) c.loop-i.changes) end
    (all s notes c.args.changes.now c.loop-i.changes c.loop-i.i c.loop-i.invariant
    (by (nat_lt (length c.args.changes.now) (length notes)) refl))
  where
    -- the less of two lengths is one of them
    by : (x : Bool) → nat_lt (length c.args.changes.now) (length c.args.notes.now) ≡ x → (length c.args.notes.now ≤ c.loop-i.i) ⊎ (c.loop-i.i ≡ length c.loop-i.changes)
    by true less = inr (omega (arith, ltb-true (length c.args.changes.now) (length c.args.notes.now) less, c.min-count.ensures, c.loop-i-test.false, c.loop-i.auto.i-end, c.loop-i.auto.changes))
    by false not_less =
        let more : length c.args.notes.now ≤ length c.args.changes.now = grind (arith, nat_tests, not_less) in
        inl (omega (arith, more, c.min-count.ensures, c.loop-i-test.false))
