-- A database that is not halted refuses nothing.
use Rattle.std.proofs.Common.{Err, ap}
use Rattle.c_handle.proofs.Served.{few}
use Rattle.c_handle.proofs.mappings.next_page.Goals as goal

pub returns-in-Err-clause-next : goal.returns-in-Err-clause-next
returns-in-Err-clause-next c = λ p same after before. absurd (cc (c.in-Err.ensures.halted.0 (ap Err c.in-Err.ensures.errors), c.requires.running))

pub returns-in-Err-clause-small : goal.returns-in-Err-clause-small
returns-in-Err-clause-small c = few c.args.database.now.limits (c.limits.ensures.served c.requires.running)

pub returns-in-Ok-clause-small : goal.returns-in-Ok-clause-small
returns-in-Ok-clause-small c = few c.args.database.now.limits (c.limits.ensures.served c.requires.running)
