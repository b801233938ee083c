-- The mappings so far with those to come are all.
use Rattle.std.proofs.Common.{◌≡◌, ◌++◌, map, length}
use Rattle.holdings.specs.Mappings.{mapped_of, held_from}
use Rattle.holdings.proofs.mappings.Mappings.push_space.Given as goal

abbrev pub invariant-loop-mapping : goal.invariant-loop-mapping
invariant-loop-mapping l =
    (l.from.space ≡ l.space) × ((map mapped_of l.list.items ++ held_from l.self l.space l.from.page) ≡ (map mapped_of l.initial.list.items ++ held_from l.self l.space 0))

abbrev pub decreases-loop-mapping : goal.decreases-loop-mapping
decreases-loop-mapping l = length (held_from l.self l.space l.from.page)
