-- The new mappings of the transfers so far are in the trees of the part.
use Rattle.std.proofs.Common.{take, length}
use Rattle.holdings.specs.Inner.Links.{AreLinked, links_between, links_of}
use Rattle.holdings.proofs.link.link_part.Given as goal

abbrev pub invariant-loop-transfer : goal.invariant-loop-transfer
invariant-loop-transfer l = AreLinked (links_between l.start (length l.fn.part) (links_of l.shards (take l.transfer-index l.transfers))) l.fn.part l.part
