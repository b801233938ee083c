-- Where all nodes were kept no page is gone, and where none was, none of the runs is left.
use Rattle.holdings.proofs.Planned.AllKept.{rising_runs, nothing_gone, all_gone_in_runs}
use Rattle.holdings.proofs.prune.prune_gone.Goals as goal

pub are_all_kept-requires : goal.are_all_kept-requires
are_all_kept-requires c = rising_runs c.args.shards.now c.args.trees.now c.args.frames.now c.requires.can

pub returns-then-are_all_kept : goal.returns-then-are_all_kept
returns-then-are_all_kept c = nothing_gone c.args.shards.now c.args.trees.now c.args.frames.now _ c.requires.can c.requires.kept (c.are_all_kept.ensures c.if-are_all_kept.true)

pub remove_all-requires-clause-gone : goal.remove_all-requires-clause-gone
remove_all-requires-clause-gone c = all_gone_in_runs c.args.shards.now c.args.trees.now c.args.frames.now _ c.requires.kept (c.is_none_kept.ensures c.if-is_none_kept.true)
