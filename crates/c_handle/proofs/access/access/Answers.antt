-- The page of an address below the end of a space is one of its pages.
use Rattle.std.proofs.Common.{◌≡◌, ◌*◌, ◌/◌, ◌%◌, false, ◌<◌, ◌^◌, arith, sym, ap, ◌∙◌}
use Rattle.model.specs.Definitions.Calls.{Limits}
use Rattle.mapdb.specs.Held.{IsWithin}
use Rattle.mapdb.specs.State.{State}
use Rattle.c_handle.proofs.Pages.{page_within, shifted}
use Rattle.c_handle.proofs.Served.{served}
use Rattle.c_handle.proofs.access.access.Goals as goal

pub answer_access-requires : goal.answer_access-requires
answer_access-requires c =
    let s : State = c.args.kept.now.database in
    let runs : s.is_halted ≡ false = sym c.if-is_halted.ensures in
    let same_bits = ap (λ (l : Limits). l.bits) c.limits-limits.ensures.limits in
    let same_spaces = ap (λ (l : Limits). l.spaces) c.limits-limits.ensures.limits in
    let are = served s.limits (c.limits-limits.ensures.served runs) in
    let all = ap (λ b. 1 * 2 ^ b % 2 ^ 64) same_bits ∙ shifted s.limits.bits are.high in
    let below : c.args.asked.address < 2 ^ s.limits.bits = omega (arith, all, c.from-2.ensures, c.if-from-limits-2.false) in
    let there : c.args.asked.space < s.limits.spaces = omega (arith, same_spaces, c.from.ensures, c.if-from-limits.false) in
    let within : IsWithin s.limits (record { space = c.args.asked.space; page = c.args.asked.address / 4096 }) = record { space = there; page = page_within s.limits.bits c.args.asked.address are.low below } in
    record { within = within }
