-- The run of the place is noted.
use Rattle.std.proofs.Common.{◌≤◌, length, ap, sym, ◌∙◌, subst}
use Rattle.std.specs.Prelude.{is_some}
use Rattle.space.specs.Place.{same_place}
use Rattle.maptree.proofs.Found.{some_found}
use Rattle.maptree.proofs.OneRun.{IsRunOf, run_found}
use Rattle.holdings.specs.Inner.Notes.{AreLosersNoted, losing_from}
use Rattle.holdings.proofs.Trees.Pruning.{on_ok}
use Rattle.holdings.proofs.noting.note_place.Goals as goal

pub unwrap-i-requires : goal.unwrap-i-requires
unwrap-i-requires c = ap is_some c.find.ensures ∙ some_found (λ o. same_place c.args.place o.0) c.args.tree.now.links c.requires.stands

pub losing-requires : goal.losing-requires
losing-requires c =
    let run : IsRunOf c.args.tree.now.links c.args.place c.run_of-run.result = run_found c.args.tree.now.links c.args.place c.unwrap-i.result c.run_of-run.result (sym c.find.ensures ∙ c.unwrap-i.ensures) c.run_of-run.ensures.start c.run_of-run.ensures.end c.run_of-run.ensures.run in
    run.some

pub note_run-requires-clause-within : goal.note_run-requires-clause-within
note_run-requires-clause-within c =
    let run : IsRunOf c.args.tree.now.links c.args.place c.run_of-run.result = run_found c.args.tree.now.links c.args.place c.unwrap-i.result c.run_of-run.result (sym c.find.ensures ∙ c.unwrap-i.ensures) c.run_of-run.ensures.start c.run_of-run.ensures.end c.run_of-run.ensures.run in
    subst (λ n. n ≤ length c.args.tree.now.links) (sym c.losing.ensures.end) run.within

pub returns : goal.returns
returns c =
    let run : IsRunOf c.args.tree.now.links c.args.place c.run_of-run.result = run_found c.args.tree.now.links c.args.place c.unwrap-i.result c.run_of-run.result (sym c.find.ensures ∙ c.unwrap-i.ensures) c.run_of-run.ensures.start c.run_of-run.ensures.end c.run_of-run.ensures.run in
    on_ok c.note_run.result c.note_run.ensures
    (λ adds. record {
      run = c.run_of-run.result;
      whole = run.whole;
      some = run.some;
      within = run.within;
      first = run.first;
      adds = subst (λ b. AreLosersNoted c.args.shards.now c.args.tree.now.links (losing_from c.args.flush c.run_of-run.result.start) b c.args.revoked c.args.list.now.items c.note_run.new.list.items) c.losing.ensures.end
          (subst (λ a. AreLosersNoted c.args.shards.now c.args.tree.now.links a c.losing.result.end c.args.revoked c.args.list.now.items c.note_run.new.list.items) c.losing.ensures.start adds);
    })
