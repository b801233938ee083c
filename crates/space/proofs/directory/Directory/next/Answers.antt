-- The runs of 16 that are passed over have no live shard.
use Rattle.std.proofs.Common.{◌≡◌, ◌∙◌, ap, arith, ℕ, ◌/◌, ◌%◌, ◌<◌, ◌≤◌, List, slice_index, inl, inr}
use Rattle.std.specs.Int.{bit_at}
use Rattle.space.specs.declared.directory.Directory.{Directory}
use Rattle.space.specs.Positions.{most_of, position_in, AreRunsOf}
use Rattle.space.proofs.Leaves.{runs_in, within_or_past}
use Rattle.space.proofs.directory.Directory.next.Goals as goal

passed : (d : Directory) (live runs : List ℕ) → AreRunsOf d live runs → (from upto : ℕ) → ((run : ℕ) → from / 16 ≤ run → run < upto → bit_at (slice_index runs (run / 16)) (run % 16) ≡ 0)
    → (shard : ℕ) → shard < most_of d → from ≤ shard → shard / 16 < upto → slice_index live (position_in d shard) ≡ 0
passed d live runs are from upto dead shard less past before =
    let of : shard / 256 ≡ shard / 16 / 16 = omega arith in
    (runs_in d live runs are).dead shard less (ap (λ k. bit_at (slice_index runs k) (shard / 16 % 16)) of ∙ dead (shard / 16) (omega (arith, past)) before)

pub returns-then-first-end-clause-dead : goal.returns-then-first-end-clause-dead
returns-then-first-end-clause-dead c shard from before =
    elim (within_or_past shard c.loop-shard.shard) as (λ _. slice_index c.args.live.now (position_in c.args.self.now shard) ≡ 0) [
      | inl earlier ↦ c.loop-shard.invariant.dead shard from earlier
      | inr past ↦
          passed c.args.self.now c.args.live.now c.args.runs.now c.requires.runs c.loop-shard.shard c.next_with_life-run.result c.next_with_life-run.ensures.dead shard (omega (arith, before, c.requires.end)) past
          (omega (arith, before, past, c.if-first-end.true, c.max-first.ensures, c.loop-shard-test.true))
    ]

pub returns-then-found-upto-clause-dead : goal.returns-then-found-upto-clause-dead
returns-then-found-upto-clause-dead c shard from before =
    elim (within_or_past shard c.loop-shard.shard) as (λ _. slice_index c.args.live.now (position_in c.args.self.now shard) ≡ 0) [
      | inl earlier ↦ c.loop-shard.invariant.dead shard from earlier
      | inr past ↦ elim (within_or_past (shard / 16) c.next_with_life-run.result) as (λ _. slice_index c.args.live.now (position_in c.args.self.now shard) ≡ 0) [
        | inl lower ↦
            passed c.args.self.now c.args.live.now c.args.runs.now c.requires.runs c.loop-shard.shard c.next_with_life-run.result c.next_with_life-run.ensures.dead shard
            (omega (arith, before, c.if-found-upto.true, c.min-upto.ensures, c.requires.end)) past lower
        | inr on ↦ c.next_in_leaf-found.ensures.dead shard (omega (arith, on, past, c.max-first.ensures)) before
      ]
    ]

pub loop-shard-preserved : goal.loop-shard-preserved
loop-shard-preserved c = record {
  from = omega (arith, c.loop-shard.invariant.from, c.max-first.ensures, c.min-upto.ensures, c.if-first-end.false);
  dead = λ shard from before. elim (within_or_past shard c.loop-shard.shard) as (λ _. slice_index c.args.live.now (position_in c.args.self.now shard) ≡ 0) [
    | inl earlier ↦ c.loop-shard.invariant.dead shard from earlier
    | inr past ↦ elim (within_or_past (shard / 16) c.next_with_life-run.result) as (λ _. slice_index c.args.live.now (position_in c.args.self.now shard) ≡ 0) [
      | inl lower ↦
          passed c.args.self.now c.args.live.now c.args.runs.now c.requires.runs c.loop-shard.shard c.next_with_life-run.result c.next_with_life-run.ensures.dead shard
          (omega (arith, before, c.min-upto.ensures, c.requires.end)) past lower
      | inr on ↦ c.next_in_leaf-found.ensures.dead shard (omega (arith, on, past, c.max-first.ensures)) (omega (arith, before, c.if-found-upto.false))
    ]
  ];
}
