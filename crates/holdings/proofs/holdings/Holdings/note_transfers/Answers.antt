-- The ends of one transfer more.
use Rattle.std.proofs.Common.{◌+◌, ◌||◌, false, List, take, get_or, sym, subst}
use Rattle.space.proofs.Lists.{take_all}
use Rattle.model.specs.Definitions.Holdings.{PlaceSet}
use Rattle.holdings.specs.Inner.Notes.{AreAdded, ends_of, is_end}
use Rattle.holdings.specs.declared.transfer.Transfer.{Transfer}
use Rattle.holdings.proofs.NotedPages.{none_added, added_more, added_same}
use Rattle.holdings.proofs.NotedTransfers.{transfer_more}
use Rattle.holdings.proofs.holdings.Holdings.note_transfers.Goals as goal

-- what stands where none does
abbrev none : Transfer
none = record { source = record { space = 0; page = 0 }; target = record { space = 0; page = 0 }; extends = false }

pub loop-transfer-init : goal.loop-transfer-init
loop-transfer-init c =
    let h = c.args.self.now.holdings in
    let old = c.args.notes.now.list.items in
    record {
      asked = c.make_room.ensures.asked;
      added = subst (AreAdded h (λ q. false) old) (sym c.make_room.ensures.list) (none_added h old);
    }

pub loop-transfer-preserved : goal.loop-transfer-preserved
loop-transfer-preserved c =
    let h = c.args.self.now.holdings in
    let ts = c.args.transfers.now in
    let i = c.loop-transfer.transfer-index in
    let kind = c.args.kind in
    let so_far = ends_of h kind (take i ts) in
    let here : PlaceSet = λ q. is_end h kind q (get_or ts i none) in
    record {
      asked = c.loop-transfer.invariant.asked;
      added = added_same h (λ q. so_far q || here q) (ends_of h kind (take (i + 1) ts)) c.args.notes.now.list.items c.note_transfer.new.list.items (transfer_more h kind ts i none c.loop-transfer-test.true)
          (added_more h so_far here c.args.notes.now.list.items c.loop-transfer.notes.list.items c.note_transfer.new.list.items c.loop-transfer.invariant.added c.in_ok-note_transfer.ensures);
    }

pub returns : goal.returns
returns c =
    let all = take_all c.loop-transfer.transfer-index c.args.transfers.now c.loop-transfer-test.false in
    record {
      asked = c.loop-transfer.invariant.asked;
      added = λ is. subst (λ (ts : List Transfer). AreAdded c.args.self.now.holdings (ends_of c.args.self.now.holdings c.args.kind ts) c.args.notes.now.list.items c.loop-transfer.notes.list.items) all c.loop-transfer.invariant.added;
    }
