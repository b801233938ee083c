-- The recursion notes the run before it changes it; its places are those of the tree.
use Rattle.std.proofs.Common.{◌≤◌, length, sym, subst}
use Rattle.std.specs.List.{All}
use Rattle.space.specs.Shards.{IsPlace}
use Rattle.maptree.specs.Origins.{Origins}
use Rattle.holdings.specs.Inner.Notes.{AreLosersNoted, NotesAdd, losing_from}
use Rattle.holdings.proofs.Contents.Holders.{links_read}
use Rattle.holdings.proofs.Stripping.Walks.{standing_places}
use Rattle.holdings.proofs.one_by_one.strip_run_by_recursion.Goals as goal

pub note_run_if_asked-requires-clause-places : goal.note_run_if_asked-requires-clause-places
note_run_if_asked-requires-clause-places c =
    let links = links_read c.args.trees.now c.args.frame c.index-trees-frame.result c.requires.frame c.index-trees-frame.is in
    subst (λ (os : Origins). All (λ o. IsPlace c.args.shards.now o.0) os) links (standing_places c.args.shards.now c.args.trees.now c.args.frame c.requires.loose)

pub note_run_if_asked-requires-clause-within : goal.note_run_if_asked-requires-clause-within
note_run_if_asked-requires-clause-within c =
    let links = links_read c.args.trees.now c.args.frame c.index-trees-frame.result c.requires.frame c.index-trees-frame.is in
    subst (λ (os : Origins). c.args.run.now.end ≤ length os) links c.requires.within

pub returns-clause-noted : goal.returns-clause-noted
returns-clause-noted c =
    let links = links_read c.args.trees.now c.args.frame c.index-trees-frame.result c.requires.frame c.index-trees-frame.is in
    subst (λ (os : Origins). NotesAdd (AreLosersNoted c.args.shards.now os (losing_from c.args.flush c.args.run.now.start) c.args.run.now.end c.args.revoked) c.args.notes.now c.note_run_if_asked.new.notes) (sym links)
    c.in_ok-note_run_if_asked.ensures
