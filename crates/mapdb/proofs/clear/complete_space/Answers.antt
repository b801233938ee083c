-- The word of the complete space is one that is read.
use Rattle.mapdb.proofs.WholeSpaces.{complete_read}
use Rattle.mapdb.proofs.clear.complete_space.Goals as goal

pub unreachable-requires : goal.unreachable-requires
unreachable-requires c = absurd (cc (c.in-Err.ensures.read, complete_read c.args.bits))

pub returns : goal.returns
returns c = cc c.in-Ok.ensures.read
