-- The ends of the transfers so far are noted.
use Rattle.std.proofs.Common.{◌≡◌, take}
use Rattle.holdings.specs.Inner.Notes.{AreAdded, ends_of}
use Rattle.holdings.proofs.holdings.Holdings.note_transfers.Given as goal

abbrev pub invariant-loop-transfer : goal.invariant-loop-transfer
invariant-loop-transfer l = record {
  asked : l.notes.asked ≡ l.fn.notes.asked;
  added : AreAdded l.self.holdings (ends_of l.self.holdings l.kind (take l.transfer-index l.transfers)) l.fn.notes.list.items l.notes.list.items;
}
