-- The shift loses nothing.
use Rattle.std.proofs.Common.{arith, ◌∙◌, ◌-◌, ◌≤◌, ◌≡◌, ◌*◌, ◌^◌}
use Rattle.space.proofs.Directories.{shifted}
use Rattle.space.proofs.shards.Shards.shards_in_space.Goals as goal

pub returns : goal.returns
returns c =
    let s = c.args.self.now in
    let few : s.bits - 18 ≤ 14 = omega (arith, s.limits.high) in
    let one : 1 * 2 ^ (s.bits - 18) ≡ 2 ^ (s.bits - 18) = omega arith in
    shifted 1 (s.bits - 18) 64 few (omega arith) (omega arith) ∙ one
