-- In a batch no word comes twice, since none does in all.
use Rattle.std.proofs.Common.{sym, subst}
use Rattle.holdings.specs.declared.item_batches.Passing.TheVariants.{Mapped, Moved}
use Rattle.holdings.specs.Inner.Phases.{AreItemsApart, batch_of}
use Rattle.holdings.proofs.Phases.ItemParts.{batch_apart}
use Rattle.holdings.proofs.item_batches.ItemBatches.plan.Goals as goal

pub link_pieces-requires-clause-distinct : goal.link_pieces-requires-clause-distinct
link_pieces-requires-clause-distinct c =
    let b = c.args.self.now in
    let apart = batch_apart b.passing b.shards.now b.transfers.now b.size c.args.batch c.requires.apart in
    subst (AreItemsApart (Mapped c.in-Mapped.rights) b.shards.now) (sym c.batch_of-transfers.ensures) (subst (λ p. AreItemsApart p b.shards.now (batch_of b.size b.transfers.now c.args.batch)) c.in-Mapped.is apart)

pub move_pieces-requires-clause-distinct : goal.move_pieces-requires-clause-distinct
move_pieces-requires-clause-distinct c =
    let b = c.args.self.now in
    let apart = batch_apart b.passing b.shards.now b.transfers.now b.size c.args.batch c.requires.apart in
    subst (AreItemsApart Moved b.shards.now) (sym c.batch_of-transfers.ensures) (subst (λ p. AreItemsApart p b.shards.now (batch_of b.size b.transfers.now c.args.batch)) c.in-Moved.is apart)
