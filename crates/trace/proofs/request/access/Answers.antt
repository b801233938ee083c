-- The page of an address below the end of a space is one of its pages.
use Rattle.std.proofs.Common.{◌<◌, ◌^◌, arith}
use Rattle.trace.proofs.Pages.{page_within, shifted}
use Rattle.trace.proofs.request.access.Goals as goal

pub returns-clause-within : goal.returns-clause-within
returns-clause-within c =
    let bits = c.args.limits.now.bits in
    let below : c.in_ok-space.field-0.address < 2 ^ bits = omega (arith, shifted bits c.requires.high) in
    record { space = omega arith; page = page_within bits c.in_ok-space.field-0.address c.requires.low below }
