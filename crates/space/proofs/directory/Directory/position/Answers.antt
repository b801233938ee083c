-- The position stands in the entry that the branch has, or at the shard's place in its leaf.
use Rattle.std.proofs.Common.{◌≡◌, ◌∙◌, ap, sym, arith, ◌+◌, ◌*◌, ◌/◌, ◌%◌, slice_index}
use Rattle.std.proofs.lemmas.List.{get_or_default}
use Rattle.space.specs.Leaves.{lone_leaf, alone, block_of, position_alone, slot_in, branch_at, entry_at, leaf_at}
use Rattle.space.specs.Positions.{position_in}
use Rattle.space.proofs.Leaves.{found_in, run_within, leaf_within, position_within, block_low, block_high, leaf_of_branch, by_entry, by_numbers}
use Rattle.space.proofs.directory.Directory.position.Goals as goal

pub returns-then-branch-ge-LONE_LEAF : goal.returns-then-branch-ge-LONE_LEAF
unfolding position_in
returns-then-branch-ge-LONE_LEAF c = c.position_without_branch.ensures

pub index-leaf-requires : goal.index-leaf-requires
index-leaf-requires c =
    let d = c.args.self.now in
    let run = run_within d.most d.count d.branches.items d.leaves.items d.positions.items (found_in d) c.args.shard c.requires in
    let entry : c.index-branch.result.now ≡ slice_index d.branches.items (c.args.shard / 16 / 16) =
    let of : c.args.shard / 256 ≡ c.args.shard / 16 / 16 = omega arith in
    c.index-branch.ensures ∙ get_or_default d.branches.items (c.args.shard / 256) c.index-branch.result.now 0 run ∙ ap (slice_index d.branches.items) of in
    let branch : branch_at d.branches.items (c.args.shard / 16 / 16) ≡ c.index-branch.result.now = ap (block_of lone_leaf) (sym entry) ∙ block_low lone_leaf c.index-branch.result.now c.if-branch-ge-LONE_LEAF.false in
    omega (arith, branch, leaf_within d.most d.count d.branches.items d.leaves.items d.positions.items (found_in d) (c.args.shard / 16), d.leaves.ok.0)

pub returns-then-leaf-ge-ALONE : goal.returns-then-leaf-ge-ALONE
unfolding position_in
returns-then-leaf-ge-ALONE c =
    let d = c.args.self.now in
    let run = run_within d.most d.count d.branches.items d.leaves.items d.positions.items (found_in d) c.args.shard c.requires in
    let first : c.index-branch.result.now ≡ slice_index d.branches.items (c.args.shard / 256) =
    c.index-branch.ensures ∙ get_or_default d.branches.items (c.args.shard / 256) c.index-branch.result.now 0 run in
    let of : c.args.shard / 256 ≡ c.args.shard / 16 / 16 = omega arith in
    let branch : branch_at d.branches.items (c.args.shard / 16 / 16) ≡ c.index-branch.result.now =
    ap (block_of lone_leaf) (sym (first ∙ ap (slice_index d.branches.items) of)) ∙ block_low lone_leaf c.index-branch.result.now c.if-branch-ge-LONE_LEAF.false in
    let slot : c.index-branch.result.now * 16 + c.args.shard / 16 % 16 ≡ slot_in (branch_at d.branches.items) (c.args.shard / 16) = omega (arith, branch) in
    let entry : c.index-leaf.result.now ≡ entry_at d.branches.items d.leaves.items (c.args.shard / 16) =
    c.index-leaf.ensures
    ∙ get_or_default d.leaves.items (c.index-branch.result.now * 16 + c.args.shard / 16 % 16) c.index-leaf.result.now 0 (omega (arith, slot, leaf_within d.most d.count d.branches.items d.leaves.items d.positions.items (found_in d) (c.args.shard / 16)))
    ∙ ap (slice_index d.leaves.items) slot in
    let small = leaf_of_branch d.branches.items d.leaves.items (c.args.shard / 16) (omega (arith, first, ap (slice_index d.branches.items) of, c.if-branch-ge-LONE_LEAF.false)) in
    let none : leaf_at d.branches.items d.leaves.items (c.args.shard / 16) ≡ 0 = small ∙ ap (block_of alone) (sym entry) ∙ block_high alone c.index-leaf.result.now c.if-leaf-ge-ALONE.true in
    c.position_alone.ensures ∙ ap (λ e. position_alone e c.args.shard) entry
    ∙ sym (by_entry d.most d.count d.branches.items d.leaves.items d.positions.items (found_in d) c.args.shard (omega (arith, first, c.if-branch-ge-LONE_LEAF.false)) none)

pub index-requires : goal.index-requires
index-requires c =
    let d = c.args.self.now in
    let run = run_within d.most d.count d.branches.items d.leaves.items d.positions.items (found_in d) c.args.shard c.requires in
    let of : c.args.shard / 256 ≡ c.args.shard / 16 / 16 = omega arith in
    let first : c.index-branch.result.now ≡ slice_index d.branches.items (c.args.shard / 16 / 16) =
    c.index-branch.ensures ∙ get_or_default d.branches.items (c.args.shard / 256) c.index-branch.result.now 0 run ∙ ap (slice_index d.branches.items) of in
    let branch : branch_at d.branches.items (c.args.shard / 16 / 16) ≡ c.index-branch.result.now = ap (block_of lone_leaf) (sym first) ∙ block_low lone_leaf c.index-branch.result.now c.if-branch-ge-LONE_LEAF.false in
    let slot : c.index-branch.result.now * 16 + c.args.shard / 16 % 16 ≡ slot_in (branch_at d.branches.items) (c.args.shard / 16) = omega (arith, branch) in
    let entry : c.index-leaf.result.now ≡ entry_at d.branches.items d.leaves.items (c.args.shard / 16) =
    c.index-leaf.ensures
    ∙ get_or_default d.leaves.items (c.index-branch.result.now * 16 + c.args.shard / 16 % 16) c.index-leaf.result.now 0 (omega (arith, slot, leaf_within d.most d.count d.branches.items d.leaves.items d.positions.items (found_in d) (c.args.shard / 16)))
    ∙ ap (slice_index d.leaves.items) slot in
    let small = leaf_of_branch d.branches.items d.leaves.items (c.args.shard / 16) (omega (arith, first, c.if-branch-ge-LONE_LEAF.false)) in
    let leaf : leaf_at d.branches.items d.leaves.items (c.args.shard / 16) ≡ c.index-leaf.result.now = small ∙ ap (block_of alone) (sym entry) ∙ block_low alone c.index-leaf.result.now c.if-leaf-ge-ALONE.false in
    omega (arith, leaf, position_within d.most d.count d.branches.items d.leaves.items d.positions.items (found_in d) c.args.shard, d.positions.ok.0)

pub returns : goal.returns
unfolding position_in
returns c =
    let d = c.args.self.now in
    let run = run_within d.most d.count d.branches.items d.leaves.items d.positions.items (found_in d) c.args.shard c.requires in
    let of : c.args.shard / 256 ≡ c.args.shard / 16 / 16 = omega arith in
    let first : c.index-branch.result.now ≡ slice_index d.branches.items (c.args.shard / 256) =
    c.index-branch.ensures ∙ get_or_default d.branches.items (c.args.shard / 256) c.index-branch.result.now 0 run in
    let branch : branch_at d.branches.items (c.args.shard / 16 / 16) ≡ c.index-branch.result.now =
    ap (block_of lone_leaf) (sym (first ∙ ap (slice_index d.branches.items) of)) ∙ block_low lone_leaf c.index-branch.result.now c.if-branch-ge-LONE_LEAF.false in
    let slot : c.index-branch.result.now * 16 + c.args.shard / 16 % 16 ≡ slot_in (branch_at d.branches.items) (c.args.shard / 16) = omega (arith, branch) in
    let entry : c.index-leaf.result.now ≡ entry_at d.branches.items d.leaves.items (c.args.shard / 16) =
    c.index-leaf.ensures
    ∙ get_or_default d.leaves.items (c.index-branch.result.now * 16 + c.args.shard / 16 % 16) c.index-leaf.result.now 0 (omega (arith, slot, leaf_within d.most d.count d.branches.items d.leaves.items d.positions.items (found_in d) (c.args.shard / 16)))
    ∙ ap (slice_index d.leaves.items) slot in
    let small = leaf_of_branch d.branches.items d.leaves.items (c.args.shard / 16) (omega (arith, first, ap (slice_index d.branches.items) of, c.if-branch-ge-LONE_LEAF.false)) in
    let leaf : leaf_at d.branches.items d.leaves.items (c.args.shard / 16) ≡ c.index-leaf.result.now = small ∙ ap (block_of alone) (sym entry) ∙ block_low alone c.index-leaf.result.now c.if-leaf-ge-ALONE.false in
    let place : c.index-leaf.result.now * 16 + c.args.shard % 16 ≡ slot_in (leaf_at d.branches.items d.leaves.items) c.args.shard = omega (arith, leaf) in
    c.index.ensures
    ∙ get_or_default d.positions.items (c.index-leaf.result.now * 16 + c.args.shard % 16) c.index.result.now 0 (omega (arith, place, position_within d.most d.count d.branches.items d.leaves.items d.positions.items (found_in d) c.args.shard))
    ∙ ap (slice_index d.positions.items) place
    ∙ sym (by_numbers d.branches.items d.leaves.items d.positions.items c.args.shard (omega (arith, first, c.if-branch-ge-LONE_LEAF.false)) (omega (arith, entry, c.if-leaf-ge-ALONE.false)))
