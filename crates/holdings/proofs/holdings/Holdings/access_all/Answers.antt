-- The accesses are one phase.
use Rattle.std.proofs.Common.{length, map, sym, ap, ◌∙◌, subst}
use Rattle.std.specs.List.{All}
use Rattle.std.proofs.lemmas.Bool.{eqb-true}
use Rattle.fpage.specs.declared.rights.Access.{Access}
use Rattle.space.specs.declared.place.Place.{Place}
use Rattle.holdings.specs.Contents.{Contents, AreAccessed}
use Rattle.holdings.specs.Places.{IsWithin}
use Rattle.holdings.specs.Inner.Faults.{is_there, with_faults}
use Rattle.holdings.specs.Inner.Held.{contents_of}
use Rattle.holdings.proofs.Phases.AccessPhase.{accesses_can, nothing_touched, all_faults, accesses_left, accesses_sound, accesses_answered, each_answered, no_answers}
use Rattle.holdings.proofs.holdings.Holdings.access_all.Goals as goal

pub work_phase-requires-clause-can : goal.work_phase-requires-clause-can
work_phase-requires-clause-can g c =
    let d = c.self.inside in
    let within = subst (λ (s : Contents). All (λ (t : Place × Access). IsWithin s.limits t.0) c.args.accesses.now) (sym c.self.view_is) c.requires.within in
    accesses_can d.shards d.trees.items c.self.invariant c.args.accesses.now within c.in_ok-pieces.pieces.items c.in_ok-pieces.ensures

pub invariant_of-result-2 : goal.invariant_of-result-2
invariant_of-result-2 g c =
    let d = c.self.inside in
    let within = subst (λ (s : Contents). All (λ (t : Place × Access). IsWithin s.limits t.0) c.args.accesses.now) (sym c.self.view_is) c.requires.within in
    accesses_sound d.shards d.trees.items c.self.invariant c.args.accesses.now within c.in_ok-pieces.pieces.items c.in_ok-pieces.ensures c.work_phase.new.shards c.in_ok-found.found c.in_ok-found.ensures.worked

pub returns-clause-accessed : goal.returns-clause-accessed
returns-clause-accessed g c =
    let d = c.self.inside in
    let within = subst (λ (s : Contents). All (λ (t : Place × Access). IsWithin s.limits t.0) c.args.accesses.now) (sym c.self.view_is) c.requires.within in
    subst (λ (old : Contents). AreAccessed old c.args.accesses.now (contents_of c.work_phase.new.shards d.trees.items, c.in_ok-answers-2.answers)) c.self.view_is
    (record {
      left = accesses_left d.shards d.trees.items c.self.invariant c.args.accesses.now within c.in_ok-pieces.pieces.items c.in_ok-pieces.ensures c.work_phase.new.shards c.in_ok-found.found c.in_ok-found.ensures.worked;
      answers = c.in_ok-answers-2.ensures ∙ accesses_answered d.shards d.trees.items c.self.invariant c.args.accesses.now within c.in_ok-pieces.pieces.items c.in_ok-pieces.ensures c.work_phase.new.shards c.in_ok-found.found c.in_ok-found.ensures.worked;
    })

pub returns-then-is_empty-clause-accessed : goal.returns-then-is_empty-clause-accessed
returns-then-is_empty-clause-accessed g c =
    let d = c.self.inside in
    let within = subst (λ (s : Contents). All (λ (t : Place × Access). IsWithin s.limits t.0) c.args.accesses.now) (sym c.self.view_is) c.requires.within in
    let empty = eqb-true c.in_ok-pieces.pieces.len 0 (sym c.is_empty.ensures ∙ c.if-is_empty.true) in
    let none = sym c.in_ok-pieces.pieces.ok.0 ∙ empty in
    subst (λ (old : Contents). AreAccessed old c.args.accesses.now (contents_of d.shards d.trees.items, c.in_ok-answers.answers)) c.self.view_is
    (record {
      left = nothing_touched d.shards d.trees.items c.self.invariant c.args.accesses.now within c.in_ok-pieces.pieces.items c.in_ok-pieces.ensures none;
      answers = c.in_ok-answers.ensures ∙ ap (with_faults (map (is_there d.shards) c.args.accesses.now)) c.new.ensures.items ∙ all_faults d.shards d.trees.items c.self.invariant c.args.accesses.now within c.in_ok-pieces.pieces.items c.in_ok-pieces.ensures none;
    })

pub with_faults-requires-2-clause-each : goal.with_faults-requires-2-clause-each
with_faults-requires-2-clause-each g c =
    let d = c.self.inside in
    let within = subst (λ (s : Contents). All (λ (t : Place × Access). IsWithin s.limits t.0) c.args.accesses.now) (sym c.self.view_is) c.requires.within in
    each_answered d.shards d.trees.items c.self.invariant c.args.accesses.now within c.in_ok-pieces.pieces.items c.in_ok-pieces.ensures c.work_phase.new.shards c.in_ok-found.found c.in_ok-found.ensures.worked

pub with_faults-requires-clause-each : goal.with_faults-requires-clause-each
with_faults-requires-clause-each g c =
    let d = c.self.inside in
    let within = subst (λ (s : Contents). All (λ (t : Place × Access). IsWithin s.limits t.0) c.args.accesses.now) (sym c.self.view_is) c.requires.within in
    let empty = eqb-true c.in_ok-pieces.pieces.len 0 (sym c.is_empty.ensures ∙ c.if-is_empty.true) in
    ap length c.new.ensures.items ∙ sym (no_answers d.shards d.trees.items c.self.invariant c.args.accesses.now within c.in_ok-pieces.pieces.items c.in_ok-pieces.ensures (sym c.in_ok-pieces.pieces.ok.0 ∙ empty))
