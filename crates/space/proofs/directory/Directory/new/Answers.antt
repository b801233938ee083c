-- No shard is there.
use Rattle.std.proofs.Common.{◌∙◌, ap}
use Rattle.std.specs.Prelude.{replicate}
use Rattle.space.proofs.Leaves.{closed_found}
use Rattle.space.proofs.Leaves.{sparse_directory, sparse_nowhere}
use Rattle.space.specs.Positions.{position_in}
use Rattle.space.proofs.directory.Directory.new.Goals as goal

pub invariant_of-result : goal.invariant_of-result
invariant_of-result c =
    let branches = c.in_ok-branches.ensures.items_if_clones_equal (λ y is. is) ∙ ap (λ n. replicate n 0) c.div_ceil-runs.ensures in
    let leaves = c.in_ok-leaves.ensures.items_if_clones_equal (λ y is. is) in
    let positions = c.in_ok-positions.ensures.items_if_clones_equal (λ y is. is) in
    let found = sparse_directory c.args.most c.in_ok-branches.branches.items c.in_ok-leaves.leaves.items c.in_ok-positions.positions.items c.requires.few branches leaves positions in
    record {
      found = closed_found (found);
    }

pub returns-clause-none : goal.returns-clause-none
unfolding position_in
returns-clause-none c =
    sparse_nowhere c.args.most c.in_ok-branches.branches.items c.in_ok-leaves.leaves.items c.in_ok-positions.positions.items c.requires.few
    (c.in_ok-branches.ensures.items_if_clones_equal (λ y is. is) ∙ ap (λ n. replicate n 0) c.div_ceil-runs.ensures) (c.in_ok-leaves.ensures.items_if_clones_equal (λ y is. is))
    (c.in_ok-positions.ensures.items_if_clones_equal (λ y is. is))
