-- One bit is 0, and no other changes.
use Rattle.std.proofs.Common.{arith, w32}
use Rattle.std.proofs.lemmas.Nat.Bits.{bit_at_clear_other}
use Rattle.space.proofs.runs.without_life.Goals as goal

pub returns : goal.returns
returns c i low differ = bit_at_clear_other w32 c.args.number c.args.leaf (omega (arith, c.requires)) i low differ
