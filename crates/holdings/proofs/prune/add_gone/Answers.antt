-- One place more: it is held, or it goes with its run.
use Rattle.std.proofs.Common.{◌≡◌, ◌<◌, ◌&&◌, length, nat_le, nat_lt, true, false, None, Decides, is_some, refl, subst, sym, ap, ◌∙◌, arith}
use Rattle.std.proofs.lemmas.Bool.{and_parts, ltb-true}
use Rattle.space.specs.declared.place.Place.{Place}
use Rattle.space.specs.Shards.{IsPlace}
use Rattle.maptree.specs.Origins.{place_at, IsRun, LeadsTo}
use Rattle.holdings.specs.Inner.Held.{has_entry}
use Rattle.holdings.specs.Inner.Stripping.{AreGoneUpTo}
use Rattle.holdings.proofs.Trees.Pruning.{read_at}
use Rattle.holdings.proofs.Stripping.GoneRuns.{one_held, one_gone, run_in_run}
use Rattle.holdings.proofs.prune.add_gone.Goals as goal

-- a place that stands for one past the end
somewhere : Place
somewhere = record { space = 0; page = 0 }

pub get-requires-clause-place : goal.get-requires-clause-place
get-requires-clause-place c =
    let os = c.args.tree.now.links in
    let here : c.at.result.place ≡ place_at os c.loop-i.i somewhere = c.at.ensures.place somewhere ∙ ap (λ ps. place_at ps c.loop-i.i somewhere) c.loop-i.invariant.nodes in
    subst (IsPlace c.args.shards.now) (read_at os c.loop-i.i somewhere ∙ sym here) (c.requires.places c.loop-i.i (somewhere, None) (omega (arith, c.loop-i-test.true, c.requires.within)))

pub loop-i-preserved-then-is_some : goal.loop-i-preserved-then-is_some
loop-i-preserved-then-is_some c =
    let s = c.args.shards.now in
    let os = c.args.tree.now.links in
    let i = c.loop-i.i in
    let held : (d : Place) → has_entry s (place_at os i d) ≡ true =
    λ d. ap (has_entry s) (sym (c.at.ensures.place d ∙ ap (λ ps. place_at ps i d) c.loop-i.invariant.nodes)) ∙ ap is_some (sym c.get.ensures) ∙ sym c.is_some.ensures ∙ c.if-is_some.true in
    record {
      from = omega (arith, c.loop-i.invariant.from);
      upto = omega (arith, c.loop-i-test.true);
      nodes = c.at.ensures.same ∙ c.loop-i.invariant.nodes;
      gone = one_held s os i c.loop-i.gone.items c.loop-i.invariant.gone (omega (arith, c.loop-i-test.true, c.requires.within)) held;
    }

-- its run has it
pub loop-i-smaller : goal.loop-i-smaller
loop-i-smaller c =
    let i = c.loop-i.i in
    let in_it = (c.run_of-its_run.ensures.run i somewhere (omega (arith, c.loop-i-test.true, c.requires.within))).1 (record { origins = 0; enough = omega arith; leads = refl }) in
    let more = ltb-true i c.run_of-its_run.result.end (and_parts _ _ in_it).1 in
    omega (arith, more, c.loop-i-test.true)

pub loop-i-preserved : goal.loop-i-preserved
loop-i-preserved c =
    let s = c.args.shards.now in
    let os = c.args.tree.now.links in
    let i = c.loop-i.i in
    let r = c.run_of-its_run.result in
    let start = c.run_of-its_run.ensures.start in
    let within : i < length os = omega (arith, c.loop-i-test.true, c.requires.within) in
    let in_it = (c.run_of-its_run.ensures.run i somewhere within).1 (record { origins = 0; enough = omega arith; leads = refl }) in
    let more = ltb-true i r.end (and_parts _ _ in_it).1 in
    let is_run : IsRun os r = λ j d inside. subst (λ k. Decides (nat_le k j && nat_lt j r.end) (LeadsTo os 0 (place_at os j d) (place_at os k d))) (sym start) (c.run_of-its_run.ensures.run j d inside) in
    let absent : (d : Place) → has_entry s (place_at os i d) ≡ false =
    λ d. ap (has_entry s) (sym (c.at.ensures.place d ∙ ap (λ ps. place_at ps i d) c.loop-i.invariant.nodes)) ∙ ap is_some (sym c.get.ensures) ∙ sym c.is_some.ensures ∙ c.if-is_some.false in
    record {
      from = omega (arith, c.loop-i.invariant.from, more);
      upto = run_in_run os c.args.run.now r c.requires.run is_run (omega (arith, start, c.loop-i.invariant.from)) (omega (arith, start, c.loop-i-test.true)) c.run_of-its_run.ensures.end;
      nodes = c.at.ensures.same ∙ c.loop-i.invariant.nodes;
      gone = subst (AreGoneUpTo s os r.end) (sym c.in_ok-push.ensures.items) (one_gone s os c.requires.origins i c.loop-i.gone.items r c.loop-i.invariant.gone start more c.run_of-its_run.ensures.end is_run absent);
    }
