-- One more record asks for one more access.
use Rattle.std.proofs.Common.{◌≡◌, ◌-◌, Some, List, ◌∷◌, ◌++◌, [], length, arith, sym, ap, subst, ◌∙◌}
use Rattle.std.proofs.lemmas.List.{length-append}
use Rattle.std.proofs.lemmas.List.Elements.{All-cons, All-nil, All-push, All-same}
use Rattle.fpage.specs.declared.rights.Access.{Access}
use Rattle.space.specs.declared.place.Place.{Place}
use Rattle.model.specs.Definitions.Records.{Fields, Version}
use Rattle.mapdb.specs.Held.{limits_of, IsWithin}
use Rattle.trace.specs.Unread.{Unread, past, first_request, access_in}
use Rattle.replay.proofs.Answering.{AskedSoFar, asked_start, asked_more, asked_past, past_none}
use Rattle.replay.proofs.answer.read_accesses.Goals as goal

pub loop-access-init : goal.loop-access-init
loop-access-init c =
    let limits = limits_of c.args.limits.now in
    let first : List (Place × Access) = c.args.first ∷ [] in
    let accesses = c.put_access.new.accesses.items in
    let are : accesses ≡ first = c.in_ok-put_access.ensures ∙ ap (λ l. l ++ first) c.clear.ensures.items in
    let one : length accesses ≡ 1 = ap length are in
    let none : 0 ≡ length accesses - 1 = omega (arith, one) in
    record {
      asked = asked_start c.args.trace.now.version limits c.args.first c.args.trace.now.records accesses are;
      within = All-same (λ access. IsWithin limits access.0) accesses first are (All-cons (λ access. IsWithin limits access.0) c.args.first [] c.requires.first (All-nil (λ access. IsWithin limits access.0)));
      some = omega (arith, one);
      taken = sym (past_none c.args.trace.now) ∙ ap (λ k. past k c.args.trace.now) none;
    }

pub loop-access-preserved : goal.loop-access-preserved
loop-access-preserved c =
    let limits = limits_of c.args.limits.now in
    let access = c.in-Some.access in
    let old = c.loop-access.accesses.items in
    let more = c.put_access-in-Some.new.accesses.items in
    let are = c.in_ok-put_access-2.ensures in
    let asks = rw c.in-Some.is at c.in_ok-access.ensures.access in
    let within = rw c.in-Some.is at c.in_ok-access.ensures.within in
    let taken = rw c.in-Some.is at c.in_ok-access.ensures.taken in
    let before = c.loop-access.invariant in
    let same = subst (λ (v : Version). Some access ≡ access_in (first_request v limits c.loop-access.trace.records)) (ap (λ (u : Unread). u.version) before.taken) asks in
    let count = length-append old (access ∷ []) in
    let counted = ap length are in
    record {
      asked = subst (λ (l : List Fields). AskedSoFar c.args.trace.now.version limits c.args.first c.args.trace.now.records l more) (sym (ap (λ (u : Unread). u.records) taken)) (asked_more before.asked access same more are);
      within = All-same (λ access. IsWithin limits access.0) more (old ++ access ∷ []) are (All-push (λ access. IsWithin limits access.0) old access before.within within);
      some = omega (arith, count, counted);
      taken = taken ∙ asked_past c.args.trace.now c.loop-access.trace old more access before.some before.taken are;
    }
