-- The branch is the run's, and the entry that of its place in the branch.
use Rattle.std.proofs.Common.{◌≡◌, ◌∙◌, ap, arith, ◌+◌, ◌*◌, ◌/◌, ◌%◌, slice_index}
use Rattle.std.proofs.lemmas.List.{get_or_default}
use Rattle.space.specs.Leaves.{lone_leaf, block_of, slot_in, branch_at}
use Rattle.space.proofs.Leaves.{found_in, run_within, leaf_within}
use Rattle.space.proofs.directory.Directory.entry.Goals as goal

pub index-requires-2 : goal.index-requires-2
index-requires-2 c =
    let d = c.args.self.now in
    let run = run_within d.most d.count d.branches.items d.leaves.items d.positions.items (found_in d) (c.args.run * 16) c.requires in
    let branch : c.block_of-branch.result ≡ branch_at d.branches.items (c.args.run / 16) =
    c.block_of-branch.ensures ∙ ap (block_of lone_leaf) (c.index.ensures ∙ get_or_default d.branches.items (c.args.run / 16) c.index.result.now 0 (omega (arith, run))) in
    omega (arith, branch, leaf_within d.most d.count d.branches.items d.leaves.items d.positions.items (found_in d) c.args.run, d.leaves.ok.0)

pub returns : goal.returns
returns c =
    let d = c.args.self.now in
    let run = run_within d.most d.count d.branches.items d.leaves.items d.positions.items (found_in d) (c.args.run * 16) c.requires in
    let branch : c.block_of-branch.result ≡ branch_at d.branches.items (c.args.run / 16) =
    c.block_of-branch.ensures ∙ ap (block_of lone_leaf) (c.index.ensures ∙ get_or_default d.branches.items (c.args.run / 16) c.index.result.now 0 (omega (arith, run))) in
    let slot : c.block_of-branch.result * 16 + c.args.run % 16 ≡ slot_in (branch_at d.branches.items) c.args.run = omega (arith, branch) in
    c.index-2.ensures
    ∙ get_or_default d.leaves.items (c.block_of-branch.result * 16 + c.args.run % 16) c.index-2.result.now 0 (omega (arith, slot, leaf_within d.most d.count d.branches.items d.leaves.items d.positions.items (found_in d) c.args.run))
    ∙ ap (slice_index d.leaves.items) slot
