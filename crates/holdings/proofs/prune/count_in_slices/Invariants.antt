-- The nodes of the slices so far.
use Rattle.std.proofs.Common.{◌≡◌, take}
use Rattle.space.specs.Slices.{nodes_of}
use Rattle.maptree.specs.Cuts.{count_of}
use Rattle.holdings.proofs.prune.count_in_slices.Given as goal

abbrev pub invariant-loop-slice : goal.invariant-loop-slice
invariant-loop-slice l = l.count ≡ count_of (nodes_of (take l.slice-index l.slices))
