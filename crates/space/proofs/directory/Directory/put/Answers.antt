-- The shard gets the next position.
use Rattle.std.proofs.Common.{◌≡◌, ◌∙◌, refl, sym, ap, arith, ◌+◌, ◌*◌, ◌/◌, ◌%◌, slice_index, slice_set}
use Rattle.std.proofs.lemmas.List.{get_or_default}
use Rattle.space.specs.Leaves.{lone_leaf, alone, slot_in, branch_at, entry_at, leaf_at}
use Rattle.space.proofs.Leaves.{closed_found}
use Rattle.space.proofs.Leaves.{positive, block_low, leaf_of_branch, found_in, fewer_there, run_within, leaf_within, position_within}
use Rattle.space.proofs.Leaves.{IsPut, put_alone, put_beside, put_in_leaf, put_there, put_elsewhere, put_added}
use Rattle.space.specs.Positions.{position_in}
use Rattle.space.proofs.directory.Directory.put.Goals as goal
use Rattle.space.proofs.directory.Directory.put.Goals.{then-leaf-ne0, else-leaf-ne0+then-branch-eq0, else-leaf-ne0+else-branch-eq0}

pub index_mut-requires : goal.index_mut-requires
index_mut-requires c =
    let d = c.args.self.now in
    omega (arith, c.leaf-leaf.ensures, position_within d.most d.count d.branches.items d.leaves.items d.positions.items (found_in d) c.args.shard, d.positions.ok.0)

pub with_one-requires : goal.with_one-requires
unfolding position_in
with_one-requires c =
    let d = c.args.self.now in
    omega (arith, fewer_there d.most d.count d.branches.items d.leaves.items d.positions.items (found_in d) c.args.shard c.requires.within c.requires.absent, (found_in d).few)

pub index_mut-requires-then-branch-eq0 : goal.index_mut-requires-then-branch-eq0
index_mut-requires-then-branch-eq0 c =
    let d = c.args.self.now in
    omega (arith, run_within d.most d.count d.branches.items d.leaves.items d.positions.items (found_in d) c.args.shard c.requires.within, d.branches.ok.0)

pub with_one-requires-else-branch-eq0 : goal.with_one-requires-else-branch-eq0
unfolding position_in
with_one-requires-else-branch-eq0 c =
    let d = c.args.self.now in
    omega (arith, fewer_there d.most d.count d.branches.items d.leaves.items d.positions.items (found_in d) c.args.shard c.requires.within c.requires.absent, (found_in d).few)

pub index_mut-requires-else-branch-eq0 : goal.index_mut-requires-else-branch-eq0
index_mut-requires-else-branch-eq0 c =
    let d = c.args.self.now in
    let run = run_within d.most d.count d.branches.items d.leaves.items d.positions.items (found_in d) c.args.shard c.requires.within in
    let of : c.args.shard / 256 ≡ c.args.shard / 16 / 16 = omega arith in
    let first = c.index.ensures ∙ get_or_default d.branches.items (c.args.shard / 256) c.index.result.now 0 run in
    let low = c.requires.branch (sym c.leaf-leaf.ensures ∙ c.if-leaf-ne0.false) in
    let branch : branch_at d.branches.items (c.args.shard / 16 / 16) ≡ c.index.result.now =
    ap (branch_at d.branches.items) (sym of) ∙ block_low lone_leaf (slice_index d.branches.items (c.args.shard / 256)) low ∙ sym first in
    omega (arith, branch, leaf_within d.most d.count d.branches.items d.leaves.items d.positions.items (found_in d) (c.args.shard / 16), d.leaves.ok.0)

pub overflow_add-self : goal.overflow_add-self
unfolding position_in
overflow_add-self c =
    let d = c.args.self.now in
    omega (arith, fewer_there d.most d.count d.branches.items d.leaves.items d.positions.items (found_in d) c.args.shard c.requires.within c.requires.absent, (found_in d).few)

pub invariant_of-self : goal.invariant_of-self
unfolding position_in
invariant_of-self c =
    let d = c.args.self.now in
    let s = c.if-leaf-ne0.self in
    let run = run_within d.most d.count d.branches.items d.leaves.items d.positions.items (found_in d) c.args.shard c.requires.within in
    let of : c.args.shard / 256 ≡ c.args.shard / 16 / 16 = omega arith in
    let first = c.index.ensures ∙ get_or_default d.branches.items (c.args.shard / 256) c.index.result.now 0 run in
    let is : IsPut d.count c.args.shard d.branches.items d.leaves.items d.positions.items s.1.1.1.0.items s.1.1.1.1.0.items s.1.1.1.1.1.0.items = elim c.if-leaf-ne0.branch as (λ _. IsPut d.count c.args.shard d.branches.items d.leaves.items d.positions.items s.1.1.1.0.items s.1.1.1.1.0.items s.1.1.1.1.1.0.items) [
      | then-leaf-ne0 w ↦
          put_in_leaf (positive (leaf_at d.branches.items d.leaves.items (c.args.shard / 16)) (λ none. w.if-leaf-ne0.true (c.leaf-leaf.ensures ∙ none)))
          (ap (λ v. v.1.1.1.0.items) w.self-is) (ap (λ v. v.1.1.1.1.0.items) w.self-is)
          (ap (λ v. v.1.1.1.1.1.0.items) w.self-is ∙ ap (λ n. slice_set d.positions.items (n * 16 + c.args.shard % 16) d.count) c.leaf-leaf.ensures)
      | else-leaf-ne0+then-branch-eq0 w ↦
          put_alone (sym first ∙ w.if-branch-eq0.true) (ap (λ v. v.1.1.1.0.items) w.self-is ∙ ap (slice_set d.branches.items (c.args.shard / 256)) w.with_one.ensures)
          (ap (λ v. v.1.1.1.1.0.items) w.self-is) (ap (λ v. v.1.1.1.1.1.0.items) w.self-is)
      | else-leaf-ne0+else-branch-eq0 w ↦
          let no_leaf : leaf_at d.branches.items d.leaves.items (c.args.shard / 16) ≡ 0 = sym c.leaf-leaf.ensures ∙ w.if-leaf-ne0.false in
          let low = c.requires.branch no_leaf in
          let branch : branch_at d.branches.items (c.args.shard / 16 / 16) ≡ c.index.result.now =
          ap (branch_at d.branches.items) (sym of) ∙ block_low lone_leaf (slice_index d.branches.items (c.args.shard / 256)) low ∙ sym first in
          let slot : c.index.result.now * 16 + c.args.shard / 16 % 16 ≡ slot_in (branch_at d.branches.items) (c.args.shard / 16) = omega (arith, branch) in
          put_beside (positive (slice_index d.branches.items (c.args.shard / 256)) (λ none. w.if-branch-eq0.false (first ∙ none))) low
          (sym (block_low alone (entry_at d.branches.items d.leaves.items (c.args.shard / 16)) c.requires.leaf) ∙ sym (leaf_of_branch d.branches.items d.leaves.items (c.args.shard / 16) (omega (arith, ap (slice_index d.branches.items) of, low))) ∙ no_leaf)
          (ap (λ v. v.1.1.1.0.items) w.self-is)
          (ap (λ v. v.1.1.1.1.0.items) w.self-is ∙ ap (λ at. slice_set d.leaves.items at w.with_one-else-branch-eq0.result) slot ∙ ap (slice_set d.leaves.items (slot_in (branch_at d.branches.items) (c.args.shard / 16))) w.with_one-else-branch-eq0.ensures)
          (ap (λ v. v.1.1.1.1.1.0.items) w.self-is)
    ] in
    record {
      found = closed_found (put_added d.most d.count d.branches.items d.leaves.items d.positions.items (found_in d) c.args.shard c.requires.within c.requires.absent _ _ _ is);
    }

pub returns : goal.returns
unfolding position_in
returns c =
    let d = c.args.self.now in
    let s = c.if-leaf-ne0.self in
    let run = run_within d.most d.count d.branches.items d.leaves.items d.positions.items (found_in d) c.args.shard c.requires.within in
    let of : c.args.shard / 256 ≡ c.args.shard / 16 / 16 = omega arith in
    let first = c.index.ensures ∙ get_or_default d.branches.items (c.args.shard / 256) c.index.result.now 0 run in
    let is : IsPut d.count c.args.shard d.branches.items d.leaves.items d.positions.items s.1.1.1.0.items s.1.1.1.1.0.items s.1.1.1.1.1.0.items = elim c.if-leaf-ne0.branch as (λ _. IsPut d.count c.args.shard d.branches.items d.leaves.items d.positions.items s.1.1.1.0.items s.1.1.1.1.0.items s.1.1.1.1.1.0.items) [
      | then-leaf-ne0 w ↦
          put_in_leaf (positive (leaf_at d.branches.items d.leaves.items (c.args.shard / 16)) (λ none. w.if-leaf-ne0.true (c.leaf-leaf.ensures ∙ none)))
          (ap (λ v. v.1.1.1.0.items) w.self-is) (ap (λ v. v.1.1.1.1.0.items) w.self-is)
          (ap (λ v. v.1.1.1.1.1.0.items) w.self-is ∙ ap (λ n. slice_set d.positions.items (n * 16 + c.args.shard % 16) d.count) c.leaf-leaf.ensures)
      | else-leaf-ne0+then-branch-eq0 w ↦
          put_alone (sym first ∙ w.if-branch-eq0.true) (ap (λ v. v.1.1.1.0.items) w.self-is ∙ ap (slice_set d.branches.items (c.args.shard / 256)) w.with_one.ensures)
          (ap (λ v. v.1.1.1.1.0.items) w.self-is) (ap (λ v. v.1.1.1.1.1.0.items) w.self-is)
      | else-leaf-ne0+else-branch-eq0 w ↦
          let no_leaf : leaf_at d.branches.items d.leaves.items (c.args.shard / 16) ≡ 0 = sym c.leaf-leaf.ensures ∙ w.if-leaf-ne0.false in
          let low = c.requires.branch no_leaf in
          let branch : branch_at d.branches.items (c.args.shard / 16 / 16) ≡ c.index.result.now =
          ap (branch_at d.branches.items) (sym of) ∙ block_low lone_leaf (slice_index d.branches.items (c.args.shard / 256)) low ∙ sym first in
          let slot : c.index.result.now * 16 + c.args.shard / 16 % 16 ≡ slot_in (branch_at d.branches.items) (c.args.shard / 16) = omega (arith, branch) in
          put_beside (positive (slice_index d.branches.items (c.args.shard / 256)) (λ none. w.if-branch-eq0.false (first ∙ none))) low
          (sym (block_low alone (entry_at d.branches.items d.leaves.items (c.args.shard / 16)) c.requires.leaf) ∙ sym (leaf_of_branch d.branches.items d.leaves.items (c.args.shard / 16) (omega (arith, ap (slice_index d.branches.items) of, low))) ∙ no_leaf)
          (ap (λ v. v.1.1.1.0.items) w.self-is)
          (ap (λ v. v.1.1.1.1.0.items) w.self-is ∙ ap (λ at. slice_set d.leaves.items at w.with_one-else-branch-eq0.result) slot ∙ ap (slice_set d.leaves.items (slot_in (branch_at d.branches.items) (c.args.shard / 16))) w.with_one-else-branch-eq0.ensures)
          (ap (λ v. v.1.1.1.1.1.0.items) w.self-is)
    ] in
    record {
      most = refl;
      count = refl;
      there = put_there d.most d.count d.branches.items d.leaves.items d.positions.items (found_in d) c.args.shard c.requires.within c.requires.absent _ _ _ is;
      elsewhere = put_elsewhere d.most d.count d.branches.items d.leaves.items d.positions.items (found_in d) c.args.shard c.requires.within c.requires.absent _ _ _ is;
    }
