-- The deques so far have the numbers of their workers.
use Rattle.std.proofs.Common.{◌≡◌}
use Rattle.crew.specs.Crews.{new_owns}
use Rattle.crew.specs.Hands.{all_parts}
use Rattle.crew.proofs.dealing.owns_of.Given as goal

abbrev pub invariant-loop-dealt : goal.invariant-loop-dealt
invariant-loop-dealt g l = l.owns.items ≡ new_owns all_parts 0 l.yielded
