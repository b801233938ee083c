-- The next piece's status.
use Rattle.std.proofs.Common.{rules, arith, ◌∙◌, sym, ap, map}
use Rattle.fpage.specs.Rights.{join}
use Rattle.pieces.specs.Values.{Value}
use Rattle.pieces.specs.Gathering.{found_by, all_found, union_of}
use Rattle.pieces.proofs.Placed.{leads_there, leads_nowhere, not_some, join_none, status_more}
use Rattle.pieces.proofs.gathering.all_status.Goals as goal
use Rattle.pieces.proofs.gathering.all_status.Goals.{in-Some, in_default}

pub offset_bounds-given-i : goal.offset_bounds-given-i
offset_bounds-given-i c =
    let there = leads_there c.args.given.now c.args.places.now c.loop-place.place-index c.in-Some.i c.requires c.loop-place-test.true c.in-Some.is in
    let low = there.within in
    search (rules, arith, low)

pub bounds-given-i : goal.bounds-given-i
bounds-given-i c = (leads_there c.args.given.now c.args.places.now c.loop-place.place-index c.in-Some.i c.requires c.loop-place-test.true c.in-Some.is).within

pub loop-place-preserved : goal.loop-place-preserved
loop-place-preserved c =
    let before = union_of (map (λ (v : Value). v.status) (all_found c.loop-place.place-index c.args.given.now)) in
    let more = status_more c.loop-place.place-index c.args.given.now in
    elim c.match-place.branch [
      | in-Some w ↦
          let there = leads_there c.args.given.now c.args.places.now c.loop-place.place-index w.in-Some.i c.requires c.loop-place-test.true w.in-Some.is in
          w.status-is ∙ w.join-status.ensures ∙ ap (join c.loop-place.status) (w.status.ensures ∙ ap (λ d. d.found.status) w.index-given-i.is ∙ sym (ap (λ (v : Value). v.status) (there.found w.index-given-i.result)))
          ∙ ap (λ s. join s (found_by c.loop-place.place-index c.args.given.now).status) c.loop-place.invariant ∙ sym more
      | in_default w ↦
          let nowhere = leads_nowhere c.args.given.now c.args.places.now c.loop-place.place-index c.requires c.loop-place-test.true (not_some _ w.in_default.not-Some) in
          w.status-is ∙ c.loop-place.invariant ∙ sym (join_none before) ∙ sym (ap (λ (v : Value). join before v.status) nowhere) ∙ sym more
    ]
