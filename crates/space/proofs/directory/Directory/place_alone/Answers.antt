-- Beside the shard that an entry has alone none is there.
use Rattle.std.proofs.Common.{◌≡◌, ◌∙◌, sym, ap, subst, arith, ◌*◌, ◌/◌, ◌<◌, length, slice_index}
use Rattle.std.proofs.lemmas.List.{get_or_default}
use Rattle.space.specs.Leaves.{nowhere, entry_at, leaf_at}
use Rattle.space.specs.Positions.{position_in}
use Rattle.space.proofs.Leaves.{found_in, run_within, none_beside}
use Rattle.space.proofs.directory.Directory.place_alone.Goals.{then-first-ge-ALONE, else-first-ge-ALONE}
use Rattle.space.proofs.directory.Directory.place_alone.Goals as goal

pub returns-clause-others : goal.returns-clause-others
unfolding position_in
returns-clause-others c none shard of differ =
    let d = c.args.self.now in
    let within : c.args.run / 16 < length d.branches.items = omega (arith, run_within d.most d.count d.branches.items d.leaves.items d.positions.items (found_in d) (c.args.run * 16) c.requires) in
    let at : c.args.run / 16 ≡ shard / 256 = omega (arith, of) in
    let first : c.index-first.result.now ≡ slice_index d.branches.items (shard / 256) = c.index-first.ensures ∙ get_or_default d.branches.items (c.args.run / 16) c.index-first.result.now 0 within ∙ ap (slice_index d.branches.items) at in
    let no_leaf : leaf_at d.branches.items d.leaves.items (shard / 16) ≡ 0 = subst (λ run. leaf_at d.branches.items d.leaves.items run ≡ 0) (sym of) none in
    elim c.if-first-ge-ALONE.branch as (λ _. position_in d shard ≡ nowhere) [
      | then-first-ge-ALONE w ↦
          none_beside d.most d.count d.branches.items d.leaves.items d.positions.items (found_in d) shard c.if-first-ge-ALONE.entry no_leaf (λ high. w.entry-is ∙ first) (λ low. absurd (omega (arith, low, first, w.if-first-ge-ALONE.true))) differ
      | else-first-ge-ALONE w ↦
          none_beside d.most d.count d.branches.items d.leaves.items d.positions.items (found_in d) shard c.if-first-ge-ALONE.entry no_leaf (λ high. absurd (omega (arith, high, first, w.if-first-ge-ALONE.false)))
          (λ low. w.entry-is ∙ w.entry-entry.ensures ∙ ap (entry_at d.branches.items d.leaves.items) (sym of)) differ
    ]
