-- The branch stands behind the others, and has the one leaf or the one shard that is there in the entry of its run.
use Rattle.std.proofs.Common.{◌≡◌, ◌∙◌, refl, sym, ap, subst, arith, ◌*◌, ◌/◌, ◌%◌, ◌<◌, ◌≤◌, length, slice_index, slice_set}
use Rattle.std.proofs.lemmas.List.{get_or_default}
use Rattle.space.specs.Leaves.{IsFound, lone_leaf, with_block}
use Rattle.space.proofs.Leaves.{closed_found}
use Rattle.space.proofs.Leaves.{found_in, few_branches, run_within, branch_parted, same_by_branch, first_parted}
use Rattle.space.specs.Positions.{position_in}
use Rattle.space.proofs.directory.Directory.part_branch.Goals as goal

pub push_block-requires-clause-few : goal.push_block-requires-clause-few
push_block-requires-clause-few c =
    let d = c.args.self.now in
    omega (arith, few_branches d.most d.count d.branches.items d.leaves.items d.positions.items (found_in d))

pub invariant_of-self : goal.invariant_of-self
invariant_of-self c =
    let d = c.args.self.now in
    let same = sym c.in_err-branch.ensures.err in
    record {
      found = subst (λ leaves. IsFound d.most d.count d.branches.items leaves d.positions.items) same d.found;
    }

pub invariant_of-self-2 : goal.invariant_of-self-2
invariant_of-self-2 c =
    let d = c.args.self.now in
    let e = c.index-entry.result.now in
    let within : c.args.run < length d.branches.items = omega (arith, run_within d.most d.count d.branches.items d.leaves.items d.positions.items (found_in d) (c.args.run * 256) c.requires.within) in
    let entry_is : slice_index d.branches.items c.args.run ≡ e = sym (c.index-entry.ensures ∙ get_or_default d.branches.items c.args.run e 0 within) in
    let high : lone_leaf ≤ e = omega (arith, entry_is, c.requires.none) in
    let after_is = ap (slice_set d.branches.items c.args.run) c.in_ok-branch.ensures.block in
    let more_is = c.in_ok-branch.ensures.ok ∙ ap (with_block 0 d.leaves.items (e % 256 / 16)) c.in_branch.ensures in
    record {
      found = closed_found (branch_parted d.most d.count d.branches.items d.leaves.items d.positions.items (found_in d) c.args.run within e entry_is high _ _ after_is more_is);
    }

pub returns-clause-same : goal.returns-clause-same
unfolding position_in
returns-clause-same c =
    let d = c.args.self.now in
    let e = c.index-entry.result.now in
    let within : c.args.run < length d.branches.items = omega (arith, run_within d.most d.count d.branches.items d.leaves.items d.positions.items (found_in d) (c.args.run * 256) c.requires.within) in
    let entry_is : slice_index d.branches.items c.args.run ≡ e = sym (c.index-entry.ensures ∙ get_or_default d.branches.items c.args.run e 0 within) in
    let high : lone_leaf ≤ e = omega (arith, entry_is, c.requires.none) in
    let after_is = ap (slice_set d.branches.items c.args.run) c.in_ok-branch.ensures.block in
    let more_is = c.in_ok-branch.ensures.ok ∙ ap (with_block 0 d.leaves.items (e % 256 / 16)) c.in_branch.ensures in
    record { most = refl; count = refl; positions = same_by_branch d.most d.count d.branches.items d.leaves.items d.positions.items (found_in d) c.args.run within e entry_is high _ _ after_is more_is }

pub returns-clause-parted : goal.returns-clause-parted
returns-clause-parted c =
    let d = c.args.self.now in
    let e = c.index-entry.result.now in
    let within : c.args.run < length d.branches.items = omega (arith, run_within d.most d.count d.branches.items d.leaves.items d.positions.items (found_in d) (c.args.run * 256) c.requires.within) in
    let entry_is : slice_index d.branches.items c.args.run ≡ e = sym (c.index-entry.ensures ∙ get_or_default d.branches.items c.args.run e 0 within) in
    let high : lone_leaf ≤ e = omega (arith, entry_is, c.requires.none) in
    let after_is = ap (slice_set d.branches.items c.args.run) c.in_ok-branch.ensures.block in
    let more_is = c.in_ok-branch.ensures.ok ∙ ap (with_block 0 d.leaves.items (e % 256 / 16)) c.in_branch.ensures in
    first_parted d.most d.count d.branches.items d.leaves.items d.positions.items (found_in d) c.args.run within e entry_is high _ _ after_is more_is
