-- The words so far are answered, and noted.
use Rattle.holdings.specs.Noting.{NotesFollow}
use Rattle.mapdb.proofs.WordByWord.{AreAnsweredUpTo}
use Rattle.mapdb.proofs.database.Database.answer_words.Given as goal

abbrev pub invariant-loop-i : goal.invariant-loop-i
invariant-loop-i g l = record {
  answered : AreAnsweredUpTo l.initial.held l.unmap.space l.unmap.control.flush l.words l.unmap.fpages.now l.i l.held l.scratch.words.items;
  noted : NotesFollow l.initial.held.holdings l.held.holdings l.initial.scratch.notes l.scratch.notes;
}
