-- The runs that are gone up to the end of the last run, and what lies in none of the runs to come.
use Rattle.std.proofs.Common.{◌≡◌, ℕ, true, drop, length}
use Rattle.std.specs.List.{list_all}
use Rattle.maptree.specs.Origins.{AreRising}
use Rattle.maptree.specs.Cuts.{outside}
use Rattle.holdings.specs.Inner.Held.{has_entry}
use Rattle.holdings.specs.Inner.Stripping.{AreGoneUpTo}
use Rattle.holdings.proofs.prune.gone_runs.Given as goal

abbrev pub invariant-loop-run : goal.invariant-loop-run
invariant-loop-run l = (p : ℕ) × AreGoneUpTo l.shards l.tree.links p l.gone.items × AreRising p (drop l.run-index l.runs) (length l.tree.links)
    × (list_all (λ o. has_entry l.shards o.0) (outside p (drop l.run-index l.runs) l.tree.links) ≡ true)
