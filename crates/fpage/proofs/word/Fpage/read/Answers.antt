-- The complete space is aligned: it has a power of two of pages, from the first on.
use Rattle.std.proofs.Common.{◌^◌, ◌-◌, ◌<◌, ◌≤◌, arith, pow_mono}
use Rattle.std.proofs.Math.Nat.{zero-mod}
use Rattle.fpage.proofs.Alignments.{power_aligned}
use Rattle.fpage.proofs.Sizes.{shifted}
use Rattle.fpage.proofs.word.Fpage.read.Goals as goal

pub invariant_of-result-then-base-eq0-2 : goal.invariant_of-result-then-base-eq0-2
invariant_of-result-then-base-eq0-2 c =
    let few : c.args.bits - 12 ≤ 20 = omega arith in
    let below : 2 ^ (c.args.bits - 12) ≤ 2 ^ 20 = pow_mono few in
    let short : c.args.bits - 12 < 32 = omega arith in
    rw (shifted (c.args.bits - 12) 32 short) (omega arith, power_aligned 0 (c.args.bits - 12) (zero-mod (2 ^ (c.args.bits - 12))))
