-- What is left stays.
use Rattle.std.proofs.Common.{◌≡◌, ◌≤◌, length}
use Rattle.trace.specs.Blocks.{left_of}
use Rattle.trace.proofs.bytes.BytesRead.read.Given as goal

abbrev pub invariant-loop-self : goal.invariant-loop-self
invariant-loop-self l = record {
  left : left_of l.self-inside.read l.self-inside.front l.self-inside.behind.items ≡ left_of l.initial.self-inside.read l.initial.self-inside.front l.initial.self-inside.behind.items;
  within : l.self-inside.read ≤ length l.self-inside.front.items;
}

-- there are fewer blocks
abbrev pub decreases-loop-self : goal.decreases-loop-self
decreases-loop-self l = length l.self-inside.behind.items
