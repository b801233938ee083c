-- What is there alone is of the run, or of another.
use Rattle.std.proofs.Common.{◌≡◌, ◌∙◌, ap, sym, arith, ◌*◌, ◌/◌, ◌%◌, slice_index}
use Rattle.std.proofs.lemmas.List.{get_or_default}
use Rattle.space.proofs.Leaves.{found_in, run_within}
use Rattle.space.proofs.directory.Directory.part_run.Goals as goal

pub part_lone_leaf-requires-clause-of_run : goal.part_lone_leaf-requires-clause-of_run
part_lone_leaf-requires-clause-of_run c =
    let d = c.args.self.now in
    let run = run_within d.most d.count d.branches.items d.leaves.items d.positions.items (found_in d) (c.args.run * 16) c.requires.within in
    let first : c.index-entry.result.now ≡ slice_index d.branches.items (c.args.run / 16) = c.index-entry.ensures ∙ get_or_default d.branches.items (c.args.run / 16) c.index-entry.result.now 0 (omega (arith, run)) in
    ap (λ e. e % 256 / 16) (sym first) ∙ c.if-entry-run.true

pub part_branch-requires-clause-none : goal.part_branch-requires-clause-none
part_branch-requires-clause-none c =
    let d = c.args.self.now in
    let run = run_within d.most d.count d.branches.items d.leaves.items d.positions.items (found_in d) (c.args.run * 16) c.requires.within in
    let first : c.index-entry.result.now ≡ slice_index d.branches.items (c.args.run / 16) = c.index-entry.ensures ∙ get_or_default d.branches.items (c.args.run / 16) c.index-entry.result.now 0 (omega (arith, run)) in
    omega (arith, first, c.if-entry-lt-LONE_LEAF.false)
