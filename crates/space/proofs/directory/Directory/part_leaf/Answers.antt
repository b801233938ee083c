-- The leaf stands behind the others, and has the position of the one shard that is there.
use Rattle.std.proofs.Common.{◌≡◌, ◌∙◌, refl, sym, ap, arith, ◌+◌, ◌*◌, ◌/◌, ◌%◌, ◌<◌, length, slice_index, slice_set}
use Rattle.std.proofs.lemmas.List.{get_or_default}
use Rattle.space.proofs.Leaves.{closed_found}
use Rattle.space.specs.Leaves.{nowhere, lone_leaf, with_block, slot_in, branch_at}
use Rattle.space.proofs.Leaves.{found_in, few_leaves, run_within, leaf_within, block_is, branch_if, leaf_parted, same_by_leaf, entry_parted, leaf_some}
use Rattle.space.specs.Positions.{position_in}
use Rattle.space.proofs.directory.Directory.part_leaf.Goals as goal

pub push_block-requires-clause-few : goal.push_block-requires-clause-few
push_block-requires-clause-few c =
    let d = c.args.self.now in
    omega (arith, few_leaves d.most d.count d.branches.items d.leaves.items d.positions.items (found_in d))

pub index_mut-requires : goal.index_mut-requires
index_mut-requires c =
    let d = c.args.self.now in
    let run = run_within d.most d.count d.branches.items d.leaves.items d.positions.items (found_in d) (c.args.run * 16) c.requires.within in
    let first : c.index.result.now ≡ slice_index d.branches.items (c.args.run / 16) = c.index.ensures ∙ get_or_default d.branches.items (c.args.run / 16) c.index.result.now 0 (omega (arith, run)) in
    let some = branch_if d.most d.count d.branches.items d.leaves.items d.positions.items (found_in d) c.args.run (omega (arith, c.entry-entry.ensures, c.if-entry-lt-ALONE.false)) in
    let branch : c.index.result.now ≡ branch_at d.branches.items (c.args.run / 16) = first ∙ sym (block_is lone_leaf (slice_index d.branches.items (c.args.run / 16)) some).1 in
    omega (arith, branch, leaf_within d.most d.count d.branches.items d.leaves.items d.positions.items (found_in d) c.args.run, d.leaves.ok.0)

pub invariant_of-self-2 : goal.invariant_of-self-2
invariant_of-self-2 c =
    let d = c.args.self.now in
    let e = c.entry-entry.result in
    let run = run_within d.most d.count d.branches.items d.leaves.items d.positions.items (found_in d) (c.args.run * 16) c.requires.within in
    let within : c.args.run < length d.branches.items * 16 = omega (arith, run) in
    let first : c.index.result.now ≡ slice_index d.branches.items (c.args.run / 16) = c.index.ensures ∙ get_or_default d.branches.items (c.args.run / 16) c.index.result.now 0 (omega (arith, run)) in
    let some = branch_if d.most d.count d.branches.items d.leaves.items d.positions.items (found_in d) c.args.run (omega (arith, c.entry-entry.ensures, c.if-entry-lt-ALONE.false)) in
    let branch : c.index.result.now ≡ branch_at d.branches.items (c.args.run / 16) = first ∙ sym (block_is lone_leaf (slice_index d.branches.items (c.args.run / 16)) some).1 in
    let slot : c.index.result.now * 16 + c.args.run % 16 ≡ slot_in (branch_at d.branches.items) c.args.run = omega (arith, branch) in
    let after_is = ap (λ at. slice_set d.leaves.items at c.in_ok-leaf.leaf) slot ∙ ap (slice_set d.leaves.items (slot_in (branch_at d.branches.items) c.args.run)) c.in_ok-leaf.ensures.block in
    let more_is = c.in_ok-leaf.ensures.ok ∙ ap (with_block nowhere d.positions.items (e % 16)) c.position_alone-position.ensures in
    record {
      found = closed_found (leaf_parted d.most d.count d.branches.items d.leaves.items d.positions.items (found_in d) c.args.run within e (sym c.entry-entry.ensures) c.if-entry-lt-ALONE.false (c.args.run * 16 + e % 16) refl _ _ after_is more_is);
    }

pub returns-clause-same : goal.returns-clause-same
unfolding position_in
returns-clause-same c =
    let d = c.args.self.now in
    let e = c.entry-entry.result in
    let run = run_within d.most d.count d.branches.items d.leaves.items d.positions.items (found_in d) (c.args.run * 16) c.requires.within in
    let within : c.args.run < length d.branches.items * 16 = omega (arith, run) in
    let first : c.index.result.now ≡ slice_index d.branches.items (c.args.run / 16) = c.index.ensures ∙ get_or_default d.branches.items (c.args.run / 16) c.index.result.now 0 (omega (arith, run)) in
    let some = branch_if d.most d.count d.branches.items d.leaves.items d.positions.items (found_in d) c.args.run (omega (arith, c.entry-entry.ensures, c.if-entry-lt-ALONE.false)) in
    let branch : c.index.result.now ≡ branch_at d.branches.items (c.args.run / 16) = first ∙ sym (block_is lone_leaf (slice_index d.branches.items (c.args.run / 16)) some).1 in
    let slot : c.index.result.now * 16 + c.args.run % 16 ≡ slot_in (branch_at d.branches.items) c.args.run = omega (arith, branch) in
    let after_is = ap (λ at. slice_set d.leaves.items at c.in_ok-leaf.leaf) slot ∙ ap (slice_set d.leaves.items (slot_in (branch_at d.branches.items) c.args.run)) c.in_ok-leaf.ensures.block in
    let more_is = c.in_ok-leaf.ensures.ok ∙ ap (with_block nowhere d.positions.items (e % 16)) c.position_alone-position.ensures in
    record { most = refl; count = refl; positions = same_by_leaf d.most d.count d.branches.items d.leaves.items d.positions.items (found_in d) c.args.run within e (sym c.entry-entry.ensures) c.if-entry-lt-ALONE.false (c.args.run * 16 + e % 16) refl _ _ after_is more_is }

pub returns-clause-branch : goal.returns-clause-branch
returns-clause-branch c none =
    let d = c.args.self.now in
    let e = c.entry-entry.result in
    let run = run_within d.most d.count d.branches.items d.leaves.items d.positions.items (found_in d) (c.args.run * 16) c.requires.within in
    let within : c.args.run < length d.branches.items * 16 = omega (arith, run) in
    let first : c.index.result.now ≡ slice_index d.branches.items (c.args.run / 16) = c.index.ensures ∙ get_or_default d.branches.items (c.args.run / 16) c.index.result.now 0 (omega (arith, run)) in
    let some = branch_if d.most d.count d.branches.items d.leaves.items d.positions.items (found_in d) c.args.run (omega (arith, c.entry-entry.ensures, c.if-entry-lt-ALONE.false)) in
    let branch : c.index.result.now ≡ branch_at d.branches.items (c.args.run / 16) = first ∙ sym (block_is lone_leaf (slice_index d.branches.items (c.args.run / 16)) some).1 in
    let slot : c.index.result.now * 16 + c.args.run % 16 ≡ slot_in (branch_at d.branches.items) c.args.run = omega (arith, branch) in
    let after_is = ap (λ at. slice_set d.leaves.items at c.in_ok-leaf.leaf) slot ∙ ap (slice_set d.leaves.items (slot_in (branch_at d.branches.items) c.args.run)) c.in_ok-leaf.ensures.block in
    let more_is = c.in_ok-leaf.ensures.ok ∙ ap (with_block nowhere d.positions.items (e % 16)) c.position_alone-position.ensures in
    absurd (omega (arith, none, leaf_some d.most d.count d.branches.items d.leaves.items d.positions.items (found_in d) c.args.run within e (sym c.entry-entry.ensures) c.if-entry-lt-ALONE.false (c.args.run * 16 + e % 16) refl _ _ after_is more_is))

pub returns-clause-parted : goal.returns-clause-parted
returns-clause-parted c =
    let d = c.args.self.now in
    let e = c.entry-entry.result in
    let run = run_within d.most d.count d.branches.items d.leaves.items d.positions.items (found_in d) (c.args.run * 16) c.requires.within in
    let within : c.args.run < length d.branches.items * 16 = omega (arith, run) in
    let first : c.index.result.now ≡ slice_index d.branches.items (c.args.run / 16) = c.index.ensures ∙ get_or_default d.branches.items (c.args.run / 16) c.index.result.now 0 (omega (arith, run)) in
    let some = branch_if d.most d.count d.branches.items d.leaves.items d.positions.items (found_in d) c.args.run (omega (arith, c.entry-entry.ensures, c.if-entry-lt-ALONE.false)) in
    let branch : c.index.result.now ≡ branch_at d.branches.items (c.args.run / 16) = first ∙ sym (block_is lone_leaf (slice_index d.branches.items (c.args.run / 16)) some).1 in
    let slot : c.index.result.now * 16 + c.args.run % 16 ≡ slot_in (branch_at d.branches.items) c.args.run = omega (arith, branch) in
    let after_is = ap (λ at. slice_set d.leaves.items at c.in_ok-leaf.leaf) slot ∙ ap (slice_set d.leaves.items (slot_in (branch_at d.branches.items) c.args.run)) c.in_ok-leaf.ensures.block in
    let more_is = c.in_ok-leaf.ensures.ok ∙ ap (with_block nowhere d.positions.items (e % 16)) c.position_alone-position.ensures in
    entry_parted d.most d.count d.branches.items d.leaves.items d.positions.items (found_in d) c.args.run within e (sym c.entry-entry.ensures) c.if-entry-lt-ALONE.false (c.args.run * 16 + e % 16) refl _ _ after_is more_is
