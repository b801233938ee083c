-- One note more.
use Rattle.std.proofs.Common.{◌≡◌, ◌++◌, ◌∷◌, [], Bool, List, get_or, sym, ap, ◌∙◌, rules}
use Rattle.std.specs.BTreeMap.{get}
use Rattle.space.specs.Place.{place_cmp}
use Rattle.model.specs.Definitions.Holdings.{is_held}
use Rattle.holdings.specs.NoteContents.{NoteContent}
use Rattle.mapdb.specs.Noted.{is_told}
use Rattle.mapdb.proofs.ToldNotes.{filter_yes, filter_no}
use Rattle.mapdb.proofs.told.told_notes.Goals.{then-is_told+in_ok-push, else-is_told}
use Rattle.mapdb.proofs.told.told_notes.Goals as goal

pub loop-note-preserved : goal.loop-note-preserved
loop-note-preserved c =
    let notes = c.args.notes.now in
    let i = c.loop-note.note-index in
    let d : NoteContent = c.note-item.result in
    let n = get_or notes i d in
    let f : NoteContent → Bool = λ n. is_told (get place_cmp c.args.firsts.now n.place) (is_held c.args.held.now.holdings n.place) in
    let held = c.args.held.now.holdings in
    let here : c.place-place.result ≡ n.place = c.place-place.ensures ∙ ap (λ (m : NoteContent). m.place) c.note-item.is in
    let is : c.is_told.result ≡ f n =
    c.is_told.ensures ∙ ap (λ o. is_told o (is_held held c.place-place.result)) (c.copied-first.ensures ∙ c.get.ensures.value)
    ∙ ap (λ p. is_told (get place_cmp c.args.firsts.now p) (is_held held p)) here in
    elim c.if-is_told.branch [
      | then-is_told+in_ok-push w ↦
          let pushed : w.push.new.self.items ≡ c.loop-note.told.items ++ n ∷ [] = search rules in
          ap (λ v. v.items) w.told-is ∙ pushed ∙ ap (λ (ns : List NoteContent). ns ++ n ∷ []) c.loop-note.invariant ∙ sym (filter_yes f notes i d c.loop-note-test.true (sym is ∙ w.if-is_told.true))
      | else-is_told w ↦ ap (λ v. v.items) w.told-is ∙ c.loop-note.invariant ∙ sym (filter_no f notes i d c.loop-note-test.true (sym is ∙ w.if-is_told.false))
    ]
