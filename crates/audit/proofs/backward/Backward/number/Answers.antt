-- A number of 32 bits has at most 10 digits.
use Rattle.std.proofs.Common.{length, drop, ap, sym, ◌∙◌, arith}
use Rattle.std.specs.Fmt.{decimal}
use Rattle.std.proofs.lemmas.Fmt.{length-decimal-le}
use Rattle.std.proofs.lemmas.List.{length-append, length-drop}
use Rattle.audit.proofs.backward.Backward.number.Goals as goal

pub write_digits-self-inside-requires : goal.write_digits-self-inside-requires
write_digits-self-inside-requires c =
    let b = c.self.inside in
    let written = ap length (sym c.self.view_is) ∙ length-drop b.start b.bytes in
    let short = length-decimal-le 10 c.args.number (omega arith) (omega arith) (omega arith) in
    let same = ap (λ n. length (decimal n)) c.from.ensures in (
      omega (arith, c.requires.room, written, c.self.told, short, same, c.self.invariant),
      omega (arith, c.self.told, c.self.invariant),
    )

pub returns-clause-room : goal.returns-clause-room
returns-clause-room c =
    let short = length-decimal-le 10 c.args.number (omega arith) (omega arith) (omega arith) in
    let same = ap (λ n. length (decimal n)) c.from.ensures in
    let rest = ap length c.self.view_is in
    let whole = ap length c.write_digits-self-inside.ensures.written ∙ length-append (decimal c.from.result) (drop c.self.inside.start c.self.inside.bytes) in
    omega (arith, whole, rest, short, same)
