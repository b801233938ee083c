-- The word of the place is changed.
use Rattle.std.proofs.Common.{sym}
use Rattle.space.proofs.shards.Shards.narrow.Goals as goal

pub returns-clause-set : goal.returns-clause-set
returns-clause-set c = c.narrow_at.ensures.set c.args.place c.requires.place (sym c.find.ensures)
