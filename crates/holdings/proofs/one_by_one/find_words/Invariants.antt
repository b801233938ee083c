-- The words so far are found.
use Rattle.std.proofs.Common.{◌≡◌, ℕ, ◌-◌, ◌<◌, ◌≤◌, slice_index, length}
use Rattle.space.specs.declared.place.Place.{Place}
use Rattle.space.specs.Shards.{index_of}
use Rattle.maptree.specs.Origins.{place_at}
use Rattle.holdings.proofs.one_by_one.find_words.Given as goal

abbrev pub invariant-loop-j : goal.invariant-loop-j
invariant-loop-j l = record {
  nodes : l.nodes ≡ l.fn.nodes;
  many : length l.found ≡ 16;
  found : (k : ℕ) → k < l.j → (d : Place) → l.from ≤ k → slice_index l.found (k - l.from) ≡ index_of l.shards (place_at l.fn.nodes k d);
}
