-- The words so far are worked, and noted.
use Rattle.holdings.specs.Noting.{NotesFollow}
use Rattle.mapdb.proofs.WordByWord.{AreWorkedUpTo}
use Rattle.mapdb.proofs.unmap.unmap_words.Given as goal

abbrev pub invariant-loop-fpage : goal.invariant-loop-fpage
invariant-loop-fpage g l = record {
  worked : AreWorkedUpTo l.fn.held l.unmap.space l.unmap.control.flush l.unmap.fpages.now l.fpage-index l.held l.status.items;
  noted : NotesFollow l.fn.held.holdings l.held.holdings l.fn.notes l.notes;
}
