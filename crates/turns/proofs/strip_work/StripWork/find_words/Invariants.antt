-- The words so far.
use Rattle.std.proofs.Common.{◌≡◌, ℕ, ◌-◌, ◌<◌, ◌≤◌, length, slice_index}
use Rattle.turns.proofs.strip_work.StripWork.find_words.Given as goal

abbrev pub invariant-loop-k : goal.invariant-loop-k
invariant-loop-k l = record {
  post : l.post ≡ l.initial.post;
  many : length l.found ≡ 16;
  found : (j : ℕ) → j < l.k → l.from ≤ j → slice_index l.found (j - l.from) ≡ slice_index l.shared.opening.words (slice_index l.self.indexes.items j);
}
