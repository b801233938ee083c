-- No status bit is lost.
use Rattle.model.proofs.KeptBits.{call_keeps_bits, replay_keeps_bits}
use Rattle.model.proofs.NewBits.{bits_come_from_accesses}
use Rattle.model.proofs.laws.kept_status.Goals as goal

pub returns-clause-call_keeps_bits : goal.returns-clause-call_keeps_bits
returns-clause-call_keeps_bits c = call_keeps_bits

pub returns-clause-replay_keeps_bits : goal.returns-clause-replay_keeps_bits
returns-clause-replay_keeps_bits c = replay_keeps_bits

pub returns-clause-bits_come_from_accesses : goal.returns-clause-bits_come_from_accesses
returns-clause-bits_come_from_accesses c = bits_come_from_accesses
