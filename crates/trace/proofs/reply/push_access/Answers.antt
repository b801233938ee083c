-- What the line says stands behind the digits.
use Rattle.std.proofs.Common.{codes}
use Rattle.std.specs.Fmt.{decimal}
use Rattle.model.specs.Definitions.Text.{line_feed}
use Rattle.trace.proofs.Lines.{line_behind}
use Rattle.trace.proofs.reply.push_access.Goals as goal

pub returns-in-false-clause-ok : goal.returns-in-false-clause-ok
returns-in-false-clause-ok c = rw (c.in-false.is, line_behind c.args.text.now.items (decimal c.args.number) (codes " ") (codes "access fault") line_feed) c.push_numbered-in-false.ensures.ok
