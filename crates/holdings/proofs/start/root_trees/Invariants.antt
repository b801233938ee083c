-- The trees of the frames so far.
use Rattle.std.proofs.Common.{◌≡◌, ℕ, ◌<◌, [], ◌∷◌, None, length}
use Rattle.holdings.specs.Inner.Held.{links_in}
use Rattle.holdings.specs.Inner.Start.{root_place}
use Rattle.holdings.proofs.start.root_trees.Given as goal

abbrev pub invariant-loop-frame : goal.invariant-loop-frame
invariant-loop-frame l = record {
  count : length l.trees.items ≡ l.frame;
  roots : (f : ℕ) → f < l.frame → links_in l.trees.items f ≡ (root_place f, None) ∷ [];
}
