-- One note more, before those so far.
use Rattle.std.proofs.Common.{◌≡◌, ◌+◌, ◌-◌, ◌<◌, Bool, true, false, cond, drop, length, get_or, Option, Some, refl, sym, ap, ◌∙◌, arith}
use Rattle.std.specs.BTreeMap.{get}
use Rattle.std.proofs.lemmas.List.{drop_more}
use Rattle.space.proofs.Places.{same_is}
use Rattle.space.specs.Place.{place_cmp, same_place}
use Rattle.model.specs.Definitions.Holdings.{is_held}
use Rattle.holdings.specs.Noting.{first_note}
use Rattle.holdings.specs.NoteContents.{NoteContent}
use Rattle.holdings.proofs.Stripping.Sequences.{same_back}
use Rattle.mapdb.specs.Noted.{unless_held}
use Rattle.mapdb.proofs.told.first_notes.Goals.{then-not-is_held+in_ok-insert, else-not-is_held}
use Rattle.mapdb.proofs.told.first_notes.Goals as goal

-- a page that is not held
put : (here held was : Bool) (first : Option Bool) → (here ≡ true → held ≡ false) → cond here (Some was) (unless_held held first) ≡ unless_held held (cond here (Some was) first)
put true true was first unheld = absurd (cc (unheld refl))
put true false was first unheld = refl
put false held was first unheld = refl

-- one that is held
pass : (here held was : Bool) (first : Option Bool) → (here ≡ true → held ≡ true) → unless_held held first ≡ unless_held held (cond here (Some was) first)
pass true true was first is = refl
pass true false was first is = absurd (cc (is refl))
pass false held was first is = refl

pub loop-i-preserved : goal.loop-i-preserved
loop-i-preserved c p =
    let notes = c.args.notes.now in
    let i = c.loop-i.i in
    let d : NoteContent = c.index-notes-notes.result in
    let k = length notes - 1 - i in
    let n = get_or notes k d in
    let within : k < length notes = omega (arith, c.loop-i-test.true) in
    let here : length notes - (i + 1) ≡ k = omega arith in
    let behind : k + 1 ≡ length notes - i = omega (arith, c.loop-i-test.true) in
    let first : first_note (drop (length notes - (i + 1)) notes) p ≡ cond (same_place p n.place) (Some n.was_held) (first_note (drop (length notes - i) notes) p) =
    ap (λ m. first_note (drop m notes) p) here ∙ ap (λ ns. first_note ns p) (drop_more notes k d within) ∙ ap (λ m. cond (same_place p n.place) (Some n.was_held) (first_note (drop m notes) p)) behind in
    let h = c.args.held.now.holdings in
    let at : c.place-place.result ≡ n.place = c.place-place.ensures ∙ ap (λ (m : NoteContent). m.place) c.index-notes-notes.is in
    let so_far = first_note (drop (length notes - i) notes) p in
    let of : same_place p n.place ≡ true → is_held h p ≡ c.is_held.result = λ same. ap (is_held h) (same_is p n.place same ∙ sym at) ∙ sym c.is_held.ensures in
    elim c.if-not-is_held.branch [
      | then-not-is_held+in_ok-insert w ↦
          ap (λ m. get place_cmp m p) w.firsts-is ∙ w.in_ok-insert.ensures.updates.0 p ∙ (λ k. cond (same_place (at k) p) (Some ((w.was_held.ensures ∙ ap (λ (m : NoteContent). m.was_held) c.index-notes-notes.is) k)) (get place_cmp c.loop-i.firsts p)) ∙ ap (λ b. cond b (Some n.was_held) (get place_cmp c.loop-i.firsts p)) (same_back n.place p)
          ∙ ap (cond (same_place p n.place) (Some n.was_held)) (c.loop-i.invariant p) ∙ put (same_place p n.place) (is_held h p) n.was_held so_far (λ same. of same ∙ w.if-not-is_held.true) ∙ ap (unless_held (is_held h p)) (sym first)
      | else-not-is_held w ↦
          ap (λ m. get place_cmp m p) w.firsts-is ∙ c.loop-i.invariant p ∙ pass (same_place p n.place) (is_held h p) n.was_held so_far (λ same. of same ∙ w.if-not-is_held.false) ∙ ap (unless_held (is_held h p)) (sym first)
    ]
