-- The words so far.
use Rattle.std.proofs.Common.{◌≡◌, map, take, slice_index}
use Rattle.turns.proofs.shared_words.gathered.Given as goal

abbrev pub invariant-loop-index : goal.invariant-loop-index
invariant-loop-index l = l.found.items ≡ map (slice_index l.words) (take l.index-index l.at)
