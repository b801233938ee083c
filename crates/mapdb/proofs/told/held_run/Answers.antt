-- Outside the limits nothing is held.
use Rattle.mapdb.proofs.told.held_run.Goals as goal

pub returns-then-not-is_within-clause-some : goal.returns-then-not-is_within-clause-some
returns-then-not-is_within-clause-some c held = absurd (cc (held, c.is_within.ensures.outside c.if-not-is_within.true))
