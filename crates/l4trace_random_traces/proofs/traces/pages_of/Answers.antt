-- The power of a number that is at most 20 is at most that of 20.
use Rattle.std.proofs.Common.{ℕ, ◌≤◌, ◌^◌, arith}
use Rattle.std.proofs.Math.Pow.{pow_mono}
use Rattle.l4trace_random_traces.proofs.traces.pages_of.Goals as goal

pub returns-clause-few : goal.returns-clause-few
returns-clause-few c =
    let n = c.min.result in
    let few : n ≤ 20 = omega (arith, c.min.ensures) in
    let power : 2 ^ n ≤ 2 ^ 20 = pow_mono few in
    omega (arith, power)
