-- A number below ten has one digit.
use Rattle.std.proofs.lemmas.Fmt.{decimal_digit}
use Rattle.trace.proofs.reply.digit.Goals as goal

pub returns-then-count-lt10-clause-digit : goal.returns-then-count-lt10-clause-digit
returns-then-count-lt10-clause-digit c = search (decimal_digit c.args.count c.if-count-lt10.true)
