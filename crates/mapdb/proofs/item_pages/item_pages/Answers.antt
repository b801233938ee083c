-- The pages lie in the fpages of item and window.
use Rattle.mapdb.proofs.ItemBounds.{pages_within}
use Rattle.mapdb.proofs.item_pages.item_pages.Goals as goal

pub returns-clause-within : goal.returns-clause-within
returns-clause-within c bits window sent =
    let w = pages_within bits c.args.item.now c.args.send.now.window c.pair-pages.result c.pair-pages.ensures.runs c.pair-pages.ensures.pairs c.requires.window window sent in
    record { sources = w.0; targets = w.1 }
