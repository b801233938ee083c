-- The table has the value of each digit.
use Rattle.std.proofs.Common.{arith}
use Rattle.fields.proofs.DigitTable.{no_digit, one_digit}
use Rattle.fields.proofs.digits.hex_digit.Goals as goal

pub returns-then-digit-eq-NO : goal.returns-then-digit-eq-NO
returns-then-digit-eq-NO c = no_digit c.args.byte c.from.result (omega arith) c.from.ensures c.if-digit-eq-NO.true

pub returns : goal.returns
returns c = one_digit c.args.byte c.from.result c.from-2.result (omega arith) c.from.ensures c.if-digit-eq-NO.false c.from-2.ensures
