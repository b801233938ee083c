-- Two bits are 1, and no other changes.
use Rattle.std.proofs.Common.{arith, ◌+◌, ◌*◌, ◌%◌, ◌^◌, bit_or, w32}
use Rattle.std.proofs.lemmas.Nat.Bits.{bit_at_set_same, bit_at_or, bit_at-lt}
use Rattle.space.proofs.RunBits.{left_none}
use Rattle.space.proofs.runs.with_life.Goals as goal

pub returns-clause-life : goal.returns-clause-life
returns-clause-life c =
    let first = bit_or c.args.number (1 * 2 ^ c.args.leaf % 2 ^ 32) in
    let second = 1 * 2 ^ (16 + c.args.leaf) % 2 ^ 32 in
    let one = bit_at_set_same w32 c.args.number c.args.leaf (omega (arith, c.requires)) in
    omega (arith, one, bit_at_or first second c.args.leaf, bit_at-lt second c.args.leaf)

pub returns-clause-there : goal.returns-clause-there
returns-clause-there c = bit_at_set_same w32 (bit_or c.args.number (1 * 2 ^ c.args.leaf % 2 ^ 32)) (16 + c.args.leaf) (omega (arith, c.requires))

pub returns-clause-others : goal.returns-clause-others
returns-clause-others c i none =
    let first = 1 * 2 ^ c.args.leaf % 2 ^ 32 in
    let second = 1 * 2 ^ (16 + c.args.leaf) % 2 ^ 32 in
    left_none c.args.number first i (left_none (bit_or c.args.number first) second i none)
