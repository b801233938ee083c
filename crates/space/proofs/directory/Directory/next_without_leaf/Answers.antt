-- The one shard that may be there is dead, or none of those asked for.
use Rattle.std.proofs.Common.{◌≡◌, ◌∙◌, sym, ap, arith, inl, inr, ◌+◌, ◌*◌, ◌/◌, ◌%◌, slice_index}
use Rattle.space.specs.Positions.{position_in}
use Rattle.space.proofs.Leaves.{same_or_not, dead_unless}
use Rattle.space.proofs.directory.Directory.next_without_leaf.Goals.{then-shard-from-via-then-shard-from, then-shard-from-via-else-shard-from+then-shard-end, then-shard-from-via-else-shard-from+else-shard-end+then-life_at-eq0}
use Rattle.space.proofs.directory.Directory.next_without_leaf.Goals as goal

pub returns-then-shard-from-clause-dead : goal.returns-then-shard-from-clause-dead
unfolding position_in
returns-then-shard-from-clause-dead c shard from before =
    let d = c.args.self.now in
    let run : shard / 16 ≡ c.args.from / 16 = omega (arith, from, before, c.requires.run) in
    elim (same_or_not (shard % 16) c.place_alone.result) as (λ _. slice_index c.args.live.now (position_in d shard) ≡ 0) [
      | inr differ ↦ dead_unless d c.args.live.now c.requires.live shard (c.place_alone.ensures.others c.requires.none shard run differ)
      | inl same ↦
          let here : c.args.from / 16 * 16 + c.place_alone.result ≡ shard = omega (arith, run, same) in
          elim c.then-shard-from.branch as (λ _. slice_index c.args.live.now (position_in d shard) ≡ 0) [
            | then-shard-from-via-then-shard-from w ↦ absurd (omega (arith, w.if-shard-from.true, here, from))
            | then-shard-from-via-else-shard-from+then-shard-end w ↦ absurd (omega (arith, w.if-shard-end.true, here, before))
            | then-shard-from-via-else-shard-from+else-shard-end+then-life_at-eq0 w ↦
                ap (λ s. slice_index c.args.live.now (position_in d s)) (sym here) ∙ ap (slice_index c.args.live.now) (sym w.position.ensures) ∙ sym w.life_at.ensures ∙ w.if-life_at-eq0.true
          ]
    ]
