-- The place is noted.
use Rattle.std.proofs.Common.{◌≡◌, true, Bool, ◌&&◌, if◌then◌else◌, Some, None, refl, ap, ◌∙◌, arith}
use Rattle.std.specs.Option.{option_or}
use Rattle.space.specs.Place.{same_place}
use Rattle.holdings.specs.Noting.{first_note}
use Rattle.holdings.proofs.NotedPages.{first_more}
use Rattle.holdings.proofs.noting.note_lost.Goals as goal

both : (x l : Bool) → l ≡ true → x ≡ (x && l)
both x l is = grind (arith, is)

pub returns-in_ok-add_note-clause-noted : goal.returns-in_ok-add_note-clause-noted
returns-in_ok-add_note-clause-noted c d = record {
  asked = refl;
  added = λ asked q.
      let old = c.args.notes.now.list.items in
      let p = c.at.result.place in
      ap (λ ns. first_note ns q) c.in_ok-add_note.ensures ∙ first_more old (record { place = p; was_held = true }) q
      ∙ ap (λ b. option_or (first_note old q) (if b then Some true else None)) (both (same_place q p) c.args.lost c.if-lost.true)
      ∙ ap (λ r. option_or (first_note old q) (if same_place q r && c.args.lost then Some true else None)) (c.at.ensures.place d);
}
