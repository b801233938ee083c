-- Places are replaced in those trees of the part that have one of the links so far.
use Rattle.std.proofs.Common.{take}
use Rattle.maptree.specs.PlaceMaps.{place_for}
use Rattle.holdings.proofs.Renamings.Parts.{AreRenaming}
use Rattle.holdings.proofs.renaming.rename_part.Given as goal

abbrev pub invariant-loop-link : goal.invariant-loop-link
invariant-loop-link l = AreRenaming (place_for l.targets) l.start l.fn.part (take l.link-index l.links) l.part l.passed
