-- Traces that are made at random.
use Rattle.std.specs.Prelude.{ℕ, ◌≤◌, ◌<◌}
use Rattle.l4trace_random_traces.specs.declared.plan.Plan.{Plan}

-- its limits are served
pub record IsPlan (p : Plan) : Type 0 where
  pub some_spaces : 2 ≤ p.spaces
  pub few_spaces : p.spaces ≤ 512
  pub some_bits : 18 ≤ p.bits
  pub few_bits : p.bits ≤ 32
  pub some_frames : 1 ≤ p.frames
  pub few_frames : p.frames ≤ 64
