-- The words so far are worked, and are told of.
use Rattle.std.proofs.Common.{◌≡◌, take}
use Rattle.mapdb.specs.State.{unmap_left}
use Rattle.mapdb.proofs.WordByWord.{AreWorkedUpTo}
use Rattle.mapdb.proofs.unmap.unmap_words_watched.Given as goal

abbrev pub invariant-loop-fpage : goal.invariant-loop-fpage
invariant-loop-fpage g l = record {
  worked : AreWorkedUpTo l.fn.held l.unmap.space l.unmap.control.flush l.unmap.fpages.now l.fpage-index l.held l.status.items;
  now : l.held.holdings ≡ unmap_left l.unmap.space l.unmap.control.flush (take l.fpage-index l.unmap.fpages.now) l.fn.held.holdings;
}
