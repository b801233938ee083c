-- The blocks so far have their new places, those to come their old ones.
use Rattle.std.proofs.Common.{◌≡◌, ◌++◌, take, drop, map}
use Rattle.maptree.specs.PlaceMaps.{place_for}
use Rattle.maptree.specs.Renamings.{nodes_renamed}
use Rattle.maptree.proofs.blocks.rename_blocks.Given as goal

abbrev pub invariant-loop-block : goal.invariant-loop-block
invariant-loop-block l = l.blocks ≡ map (nodes_renamed (place_for l.new)) (take l.block-index l.initial.blocks) ++ drop l.block-index l.initial.blocks
