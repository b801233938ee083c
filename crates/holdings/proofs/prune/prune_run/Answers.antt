-- A tree of which nothing is gone stays, and a run of which all behind some in front is gone loses that.
use Rattle.std.proofs.Common.{◌≡◌, ◌<◌, true, [], ◌∷◌, refl, sym, ap, ◌∙◌, arith}
use Rattle.std.specs.List.{list_all, slice_range}
use Rattle.std.proofs.lemmas.Bool.{and_from}
use Rattle.holdings.specs.Inner.Held.{has_entry}
use Rattle.holdings.proofs.Trees.Pruning.{none_gone, all_pass, all_gone, outside_end}
use Rattle.holdings.proofs.prune.prune_run.Goals as goal

pub returns-then-left-run : goal.returns-then-left-run
returns-then-left-run c =
    let held : list_all (λ o. has_entry c.args.shards.now o.0) (slice_range c.args.tree.now.links c.args.run.start c.args.run.end) ≡ true =
    ap (λ e. list_all (λ o. has_entry c.args.shards.now o.0) (slice_range c.args.tree.now.links c.args.run.start e)) (sym c.if-left-run.true) ∙ c.requires.left.held in
    let inside = and_from _ _ held refl in
    sym (all_pass (λ o. has_entry c.args.shards.now o.0) c.args.tree.now.links (none_gone (has_entry c.args.shards.now) c.args.tree.now.links 0 (c.args.run ∷ []) c.requires.rising inside c.requires.outside))

pub remove_end-requires-clause-run : goal.remove_end-requires-clause-run
remove_end-requires-clause-run c = c.requires.runs 0 c.args.run (omega arith)

pub returns-then-left : goal.returns-then-left
returns-then-left c =
    let os = c.args.tree.now.links in
    let test = has_entry c.args.shards.now in
    let from = c.requires.left.from in
    let upto = c.requires.left.upto in
    let rising = c.requires.rising in
    let some : c.args.left.held_to < c.args.run.end = omega (arith, upto, c.if-left-run.false) in
    let inside = and_from _ _ (c.requires.left.gone c.if-left.true) refl in
    let out = outside_end (λ o. test o.0) os c.args.run c.args.left.held_to from c.requires.outside c.requires.left.held in
    c.remove_end.ensures.links ∙ sym (all_gone test os 0 (record { start = c.args.left.held_to; end = c.args.run.end } ∷ []) (omega arith, some, rising.2) inside out)
