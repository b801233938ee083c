-- A fault that stands there, or what was found.
use Rattle.std.proofs.Common.{◌∙◌, sym, ap, inr, map, length, is_none}
use Rattle.std.specs.List.{flat_map, list_any}
use Rattle.pieces.specs.Values.{Value}
use Rattle.pieces.specs.Gathering.{all_found, union_of}
use Rattle.pieces.proofs.Placed.{missing_fault, no_fault, places_length}
use Rattle.pieces.proofs.gathering.found.Goals as goal

pub returns-then-is_missing-clause-fault : goal.returns-then-is_missing-clause-fault
returns-then-is_missing-clause-fault c =
    inr (missing_fault c.args.pieces c.args.given.now c.in_ok-places.places.items (sym c.has_stranger.ensures ∙ c.if-has_stranger.false) c.in_ok-places.ensures.distinct c.in_ok-places.ensures.places
    (sym (c.is_missing.ensures ∙ ap (list_any (λ p. is_none p)) c.deref.ensures.value) ∙ c.if-is_missing.true))

pub all_status-status-requires : goal.all_status-status-requires
all_status-status-requires c = let l = places_length c.args.pieces c.args.given.now c.in_ok-places.places.items c.in_ok-places.ensures.places in rw c.deref-2.ensures.value l.1

pub all_answers-requires : goal.all_answers-requires
all_answers-requires c = let l = places_length c.args.pieces c.args.given.now c.in_ok-places.places.items c.in_ok-places.ensures.places in rw c.deref-3.ensures.value l.1

pub returns-clause-ok : goal.returns-clause-ok
returns-clause-ok c =
    no_fault c.args.pieces c.args.given.now c.in_ok-places.places.items (sym c.has_stranger.ensures ∙ c.if-has_stranger.false) c.in_ok-places.ensures.distinct c.in_ok-places.ensures.places
    (sym (c.is_missing.ensures ∙ ap (list_any (λ p. is_none p)) c.deref.ensures.value) ∙ c.if-is_missing.false)

pub returns-clause-status : goal.returns-clause-status
returns-clause-status c =
    let l = places_length c.args.pieces c.args.given.now c.in_ok-places.places.items c.in_ok-places.ensures.places in
    c.all_status-status.ensures ∙ ap (λ n. union_of (map (λ (v : Value). v.status) (all_found n c.args.given.now))) (ap length c.deref-2.ensures.value ∙ l.0)

pub returns-clause-answers : goal.returns-clause-answers
returns-clause-answers c =
    let l = places_length c.args.pieces c.args.given.now c.in_ok-places.places.items c.in_ok-places.ensures.places in
    c.in_ok-answers.ensures ∙ ap (λ n. flat_map (λ (v : Value). v.answers) (all_found n c.args.given.now)) (ap length c.deref-3.ensures.value ∙ l.0)
