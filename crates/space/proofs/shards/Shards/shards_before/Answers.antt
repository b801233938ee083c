-- The shift loses nothing.
use Rattle.std.proofs.Common.{arith, ◌-◌, ◌≤◌}
use Rattle.space.proofs.Directories.{shifted}
use Rattle.space.proofs.shards.Shards.shards_before.Goals as goal

pub returns : goal.returns
returns c =
    let s = c.args.self.now in
    let few : s.bits - 18 ≤ 14 = omega (arith, s.limits.high) in
    rw c.from.ensures (shifted c.args.space (s.bits - 18) 64 few (omega (arith, c.ranges.space.fits)) (omega arith))
