-- The items so far.
use Rattle.holdings.specs.Noting.{NotesFollow}
use Rattle.mapdb.specs.Meaning.{counts_of}
use Rattle.mapdb.proofs.ItemByItem.{AreWorked}
use Rattle.mapdb.proofs.database.Database.send_noted.Given as goal

abbrev pub invariant-loop-item : goal.invariant-loop-item
invariant-loop-item g l = record {
  worked : AreWorked l.initial.held l.send.from l.send.to l.send.window l.send.items.now l.item-index l.held (counts_of l.reply);
  noted : NotesFollow l.initial.held.holdings l.held.holdings l.initial.notes l.notes;
}
