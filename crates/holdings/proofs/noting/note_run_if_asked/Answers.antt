-- The places that lose rights are noted, or none where no notes are asked for.
use Rattle.std.proofs.Common.{◌≤◌, length, refl, sym, subst}
use Rattle.holdings.specs.Inner.Notes.{AreLosersNoted, losing_from}
use Rattle.holdings.proofs.Trees.Pruning.{on_ok}
use Rattle.holdings.proofs.noting.note_run_if_asked.Goals as goal

pub note_run-requires-clause-within : goal.note_run-requires-clause-within
note_run-requires-clause-within c = subst (λ n. n ≤ length c.args.tree.now.links) (sym c.losing.ensures.end) c.requires.within

pub returns : goal.returns
returns c =
    let old = c.args.notes.now.list.items in
    let new = c.note_run.new.list.items in
    on_ok c.note_run.result c.note_run.ensures
    (λ adds. record {
      asked = refl;
      added = λ is.
          subst (λ b. AreLosersNoted c.args.shards.now c.args.tree.now.links (losing_from c.args.flush c.args.run.now.start) b c.args.revoked old new) c.losing.ensures.end
          (subst (λ a. AreLosersNoted c.args.shards.now c.args.tree.now.links a c.losing.result.end c.args.revoked old new) c.losing.ensures.start adds);
    })
