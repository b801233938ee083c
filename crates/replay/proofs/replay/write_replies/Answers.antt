-- Accesses are not refused.
use Rattle.std.proofs.Common.{sym}
use Rattle.replay.proofs.Replays.{none_refused}
use Rattle.replay.proofs.replay.write_replies.Goals as goal

pub returns-in_ok-write_accesses-in-Accesses-clause-refused : goal.returns-in_ok-write_accesses-in-Accesses-clause-refused
returns-in_ok-write_accesses-in-Accesses-clause-refused g c = rw c.in-Accesses.is (sym (none_refused c.in-Accesses.answers.items))
