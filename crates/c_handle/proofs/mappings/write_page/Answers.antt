-- What stands behind the others is the mapping of the page, if it is asked for, or nothing.
use Rattle.c_handle.specs.Listed.{chosen}
use Rattle.c_handle.proofs.Found.{page_none, page_some}
use Rattle.c_handle.proofs.mappings.write_page.Goals as goal

pub returns-in-None-clause-written : goal.returns-in-None-clause-written
returns-in-None-clause-written c =
    page_none c.args.mappings.now c.args.told c.args.place (chosen c.args.listing c.args.database.now.holdings c.args.place) c.in-None.ensures

pub returns-in-Some-clause-written : goal.returns-in-Some-clause-written
returns-in-Some-clause-written c =
    page_some c.args.mappings.now c.args.told c.args.place (chosen c.args.listing c.args.database.now.holdings c.args.place) c.in-Some.mapping c.in-Some.ensures c.requires.room
