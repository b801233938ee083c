-- The leaf is the one of the run of 256, or that of the branch's entry.
use Rattle.std.proofs.Common.{◌≡◌, ◌∙◌, ap, sym, arith, ◌*◌, ◌/◌, slice_index}
use Rattle.std.proofs.lemmas.List.{get_or_default}
use Rattle.space.specs.Leaves.{alone, block_of, leaf_alone}
use Rattle.space.proofs.Leaves.{found_in, run_within, leaf_of_branch, leaf_without_branch}
use Rattle.space.proofs.directory.Directory.leaf.Goals as goal

pub returns-then-first-ge-LONE_LEAF : goal.returns-then-first-ge-LONE_LEAF
returns-then-first-ge-LONE_LEAF c =
    let d = c.args.self.now in
    let run = run_within d.most d.count d.branches.items d.leaves.items d.positions.items (found_in d) (c.args.run * 16) c.requires in
    let first : c.index-first.result.now ≡ slice_index d.branches.items (c.args.run / 16) = c.index-first.ensures ∙ get_or_default d.branches.items (c.args.run / 16) c.index-first.result.now 0 (omega (arith, run)) in
    c.leaf_alone.ensures ∙ ap (λ e. leaf_alone e c.args.run) first
    ∙ sym (leaf_without_branch d.most d.count d.branches.items d.leaves.items d.positions.items (found_in d) c.args.run (omega (arith, first, c.if-first-ge-LONE_LEAF.true)))

pub returns : goal.returns
returns c =
    let d = c.args.self.now in
    let run = run_within d.most d.count d.branches.items d.leaves.items d.positions.items (found_in d) (c.args.run * 16) c.requires in
    let first : c.index-first.result.now ≡ slice_index d.branches.items (c.args.run / 16) = c.index-first.ensures ∙ get_or_default d.branches.items (c.args.run / 16) c.index-first.result.now 0 (omega (arith, run)) in
    c.block_of.ensures ∙ ap (block_of alone) c.entry.ensures ∙ sym (leaf_of_branch d.branches.items d.leaves.items c.args.run (omega (arith, first, c.if-first-ge-LONE_LEAF.false)))
