-- The next piece's answers.
use Rattle.std.proofs.Common.{rules, arith, ◌∙◌, sym, ap, ◌++◌, append-nil}
use Rattle.std.specs.List.{flat_map}
use Rattle.pieces.specs.Values.{Value}
use Rattle.pieces.specs.Gathering.{found_by, all_found}
use Rattle.pieces.proofs.Placed.{leads_there, leads_nowhere, not_some, answers_more}
use Rattle.pieces.proofs.gathering.all_answers.Goals as goal
use Rattle.pieces.proofs.gathering.all_answers.Goals.{in-Some+in_ok-extend_from_slice, in_default}

pub offset_bounds-given-i : goal.offset_bounds-given-i
offset_bounds-given-i c =
    let there = leads_there c.args.given.now c.args.places.now c.loop-place.place-index c.in-Some.i c.requires c.loop-place-test.true c.in-Some.is in
    let low = there.within in
    search (rules, arith, low)

pub bounds-given-i : goal.bounds-given-i
bounds-given-i c = (leads_there c.args.given.now c.args.places.now c.loop-place.place-index c.in-Some.i c.requires c.loop-place-test.true c.in-Some.is).within

pub loop-place-preserved : goal.loop-place-preserved
loop-place-preserved c =
    let before = flat_map (λ (v : Value). v.answers) (all_found c.loop-place.place-index c.args.given.now) in
    let more = answers_more c.loop-place.place-index c.args.given.now in
    elim c.match-place.branch [
      | in-Some+in_ok-extend_from_slice w ↦
          let there = leads_there c.args.given.now c.args.places.now c.loop-place.place-index w.in-Some.i c.requires c.loop-place-test.true w.in-Some.is in
          ap (λ v. v.items) w.answers-is ∙ w.in_ok-extend_from_slice.ensures.items
          ∙ ap (λ bs. c.loop-place.answers.items ++ bs) (w.answers.ensures ∙ ap (λ d. d.found.answers) w.index-given-i.is ∙ sym (ap (λ (v : Value). v.answers) (there.found w.index-given-i.result)))
          ∙ ap (λ bs. bs ++ (found_by c.loop-place.place-index c.args.given.now).answers) c.loop-place.invariant ∙ sym more
      | in_default w ↦
          let nowhere = leads_nowhere c.args.given.now c.args.places.now c.loop-place.place-index c.requires c.loop-place-test.true (not_some _ w.in_default.not-Some) in
          ap (λ v. v.items) w.answers-is ∙ c.loop-place.invariant ∙ sym (append-nil before) ∙ sym (ap (λ (v : Value). before ++ v.answers) nowhere) ∙ sym more
    ]
