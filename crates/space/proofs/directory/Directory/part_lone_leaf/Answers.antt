-- The leaf stands behind the others, and has the position of the one shard that is there.
use Rattle.std.proofs.Common.{◌≡◌, ◌∙◌, refl, sym, ap, arith, ◌+◌, ◌*◌, ◌/◌, ◌%◌, ◌<◌, ◌≤◌, length, slice_index, slice_set}
use Rattle.std.proofs.lemmas.List.{get_or_default}
use Rattle.space.specs.Leaves.{nowhere, alone, with_block, with_leaf}
use Rattle.space.proofs.Leaves.{closed_found}
use Rattle.space.proofs.Leaves.{found_in, few_leaves, run_within, lone_parted, lone_some, same_by_lone}
use Rattle.space.specs.Positions.{position_in}
use Rattle.space.proofs.directory.Directory.part_lone_leaf.Goals as goal

pub push_block-requires-clause-few : goal.push_block-requires-clause-few
push_block-requires-clause-few c =
    let d = c.args.self.now in
    omega (arith, few_leaves d.most d.count d.branches.items d.leaves.items d.positions.items (found_in d))

pub with_leaf-requires : goal.with_leaf-requires
with_leaf-requires c =
    let d = c.args.self.now in
    omega (arith, few_leaves d.most d.count d.branches.items d.leaves.items d.positions.items (found_in d), c.in_ok-leaf.ensures.block)

pub invariant_of-self-2 : goal.invariant_of-self-2
invariant_of-self-2 c =
    let d = c.args.self.now in
    let e = c.index-entry.result.now in
    let run = run_within d.most d.count d.branches.items d.leaves.items d.positions.items (found_in d) (c.args.run * 16) c.requires.within in
    let within : c.args.run < length d.branches.items * 16 = omega (arith, run) in
    let entry_is : slice_index d.branches.items (c.args.run / 16) ≡ e = sym (c.index-entry.ensures ∙ get_or_default d.branches.items (c.args.run / 16) e 0 (omega (arith, run))) in
    let high : alone ≤ e = omega (arith, entry_is, c.requires.one) in
    let of_run : e % 256 / 16 ≡ c.args.run % 16 = ap (λ n. n % 256 / 16) (sym entry_is) ∙ c.requires.of_run in
    let after_is = ap (slice_set d.branches.items (c.args.run / 16)) (c.with_leaf.ensures ∙ ap (λ n. with_leaf n c.args.run) c.in_ok-leaf.ensures.block) in
    let more_is = c.in_ok-leaf.ensures.ok ∙ ap (with_block nowhere d.positions.items (e % 16)) c.position_alone-position.ensures in
    record {
      found = closed_found (lone_parted d.most d.count d.branches.items d.leaves.items d.positions.items (found_in d) c.args.run within e entry_is high of_run (c.args.run * 16 + e % 16) refl _ _ after_is more_is);
    }

pub returns-clause-same : goal.returns-clause-same
unfolding position_in
returns-clause-same c =
    let d = c.args.self.now in
    let e = c.index-entry.result.now in
    let run = run_within d.most d.count d.branches.items d.leaves.items d.positions.items (found_in d) (c.args.run * 16) c.requires.within in
    let within : c.args.run < length d.branches.items * 16 = omega (arith, run) in
    let entry_is : slice_index d.branches.items (c.args.run / 16) ≡ e = sym (c.index-entry.ensures ∙ get_or_default d.branches.items (c.args.run / 16) e 0 (omega (arith, run))) in
    let high : alone ≤ e = omega (arith, entry_is, c.requires.one) in
    let of_run : e % 256 / 16 ≡ c.args.run % 16 = ap (λ n. n % 256 / 16) (sym entry_is) ∙ c.requires.of_run in
    let after_is = ap (slice_set d.branches.items (c.args.run / 16)) (c.with_leaf.ensures ∙ ap (λ n. with_leaf n c.args.run) c.in_ok-leaf.ensures.block) in
    let more_is = c.in_ok-leaf.ensures.ok ∙ ap (with_block nowhere d.positions.items (e % 16)) c.position_alone-position.ensures in
    record { most = refl; count = refl; positions = same_by_lone d.most d.count d.branches.items d.leaves.items d.positions.items (found_in d) c.args.run within e entry_is high of_run (c.args.run * 16 + e % 16) refl _ _ after_is more_is }

pub returns-clause-parted : goal.returns-clause-parted
returns-clause-parted c =
    let d = c.args.self.now in
    let e = c.index-entry.result.now in
    let run = run_within d.most d.count d.branches.items d.leaves.items d.positions.items (found_in d) (c.args.run * 16) c.requires.within in
    let within : c.args.run < length d.branches.items * 16 = omega (arith, run) in
    let entry_is : slice_index d.branches.items (c.args.run / 16) ≡ e = sym (c.index-entry.ensures ∙ get_or_default d.branches.items (c.args.run / 16) e 0 (omega (arith, run))) in
    let high : alone ≤ e = omega (arith, entry_is, c.requires.one) in
    let of_run : e % 256 / 16 ≡ c.args.run % 16 = ap (λ n. n % 256 / 16) (sym entry_is) ∙ c.requires.of_run in
    let after_is = ap (slice_set d.branches.items (c.args.run / 16)) (c.with_leaf.ensures ∙ ap (λ n. with_leaf n c.args.run) c.in_ok-leaf.ensures.block) in
    let more_is = c.in_ok-leaf.ensures.ok ∙ ap (with_block nowhere d.positions.items (e % 16)) c.position_alone-position.ensures in
    lone_some d.most d.count d.branches.items d.leaves.items d.positions.items (found_in d) c.args.run within e entry_is high of_run (c.args.run * 16 + e % 16) refl _ _ after_is more_is
