-- The place stands in none of the blocks so far.
use Rattle.std.proofs.Common.{◌≡◌, take, None}
use Rattle.std.specs.Prelude.{position}
use Rattle.space.specs.Place.{same_place}
use Rattle.maptree.specs.Blocks.{nodes_in}
use Rattle.maptree.proofs.blocks.Blocks.search.Given as goal

abbrev pub invariant-loop-k : goal.invariant-loop-k
invariant-loop-k l = position (λ n. same_place l.place n.place) (nodes_in (take l.k l.self.blocks)) ≡ None
