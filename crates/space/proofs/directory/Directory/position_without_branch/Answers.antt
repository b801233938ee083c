-- The position stands in the entry of the run, or at the shard's place in its one leaf.
use Rattle.std.proofs.Common.{◌≡◌, ◌∙◌, ap, sym, arith, ◌+◌, ◌*◌, ◌/◌, ◌%◌, slice_index}
use Rattle.std.proofs.lemmas.List.{get_or_default}
use Rattle.space.specs.Leaves.{leaf_alone, position_alone}
use Rattle.space.specs.Positions.{position_in}
use Rattle.space.proofs.Leaves.{found_in, lone_leaf_within, by_branch, by_lone_leaf}
use Rattle.space.proofs.directory.Directory.position_without_branch.Goals as goal

pub returns-then-entry-ge-ALONE : goal.returns-then-entry-ge-ALONE
unfolding position_in
returns-then-entry-ge-ALONE c =
    let d = c.args.self.now in
    c.position_alone.ensures
    ∙ ap (λ e. position_alone e c.args.shard) c.requires.entry
    ∙ sym (by_branch d.most d.count d.branches.items d.leaves.items d.positions.items (found_in d) c.args.shard (omega (arith, c.requires.entry, c.if-entry-ge-ALONE.true)))

pub index-requires : goal.index-requires
index-requires c =
    let d = c.args.self.now in
    let leaf : c.leaf_alone-leaf.result ≡ leaf_alone (slice_index d.branches.items (c.args.shard / 256)) (c.args.shard / 16) = c.leaf_alone-leaf.ensures ∙ ap (λ e. leaf_alone e (c.args.shard / 16)) c.requires.entry in
    omega (arith, leaf, lone_leaf_within d.most d.count d.branches.items d.leaves.items d.positions.items (found_in d) c.args.shard (omega (arith, c.requires.entry, c.requires.none)), d.positions.ok.0)

pub returns : goal.returns
unfolding position_in
returns c =
    let d = c.args.self.now in
    let leaf : c.leaf_alone-leaf.result ≡ leaf_alone (slice_index d.branches.items (c.args.shard / 256)) (c.args.shard / 16) = c.leaf_alone-leaf.ensures ∙ ap (λ e. leaf_alone e (c.args.shard / 16)) c.requires.entry in
    let within = lone_leaf_within d.most d.count d.branches.items d.leaves.items d.positions.items (found_in d) c.args.shard (omega (arith, c.requires.entry, c.requires.none)) in
    c.index.ensures
    ∙ get_or_default d.positions.items (c.leaf_alone-leaf.result * 16 + c.args.shard % 16) c.index.result.now 0 (omega (arith, leaf, within))
    ∙ ap (λ n. slice_index d.positions.items (n * 16 + c.args.shard % 16)) leaf
    ∙ sym (by_lone_leaf d.most d.count d.branches.items d.leaves.items d.positions.items (found_in d) c.args.shard (omega (arith, c.requires.entry, c.requires.none)) (omega (arith, c.requires.entry, c.if-entry-ge-ALONE.false)))
