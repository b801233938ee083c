-- The options that the program takes.
use Rattle.std.specs.Prelude.{◌≤◌}
use Rattle.replay.specs.declared.options.Options.{Options}

-- 1 to 64 workers, and pieces of 1 to 65536
pub record AreServed (o : Options) : Type 0 where
  pub some_workers : 1 ≤ o.workers
  pub few_workers : o.workers ≤ 64
  pub some_parts : 1 ≤ o.piece_length
  pub few_parts : o.piece_length ≤ 65536
