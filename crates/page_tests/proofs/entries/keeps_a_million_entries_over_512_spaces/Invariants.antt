-- The shards keep their limits, and their words are there.
use Rattle.std.proofs.Common.{◌≡◌}
use Rattle.std.specs.Prelude.{IsFalse}
use Rattle.space.specs.declared.shards.Shards.{Shards}
use Rattle.space.specs.Shards.{spaces_of, bits_of, is_taken}
use Rattle.page_tests.proofs.entries.keeps_a_million_entries_over_512_spaces.Given as goal

pub record IsLargest (s : Shards) : Type 0 where
  pub spaces : spaces_of s ≡ 512
  pub bits : bits_of s ≡ 24
  pub present : IsFalse (is_taken s)

abbrev pub invariant-loop-n : goal.invariant-loop-n
invariant-loop-n g l = IsLargest l.shards

abbrev pub invariant-loop-n-2 : goal.invariant-loop-n-2
invariant-loop-n-2 g l = IsLargest l.shards
