-- The nodes so far have their new places, those to come their old ones.
use Rattle.std.proofs.Common.{◌≡◌, ◌++◌, take, drop}
use Rattle.maptree.specs.PlaceMaps.{place_for}
use Rattle.maptree.specs.Renamings.{nodes_renamed}
use Rattle.maptree.proofs.replacing.replace_places.Given as goal

abbrev pub invariant-loop-node : goal.invariant-loop-node
invariant-loop-node l = l.nodes ≡ nodes_renamed (place_for l.new) (take l.node-index l.initial.nodes) ++ drop l.node-index l.initial.nodes
