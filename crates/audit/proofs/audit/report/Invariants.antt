-- The text so far, with what is left to be told, is that of all; and less is left each time.
use Rattle.std.proofs.Common.{◌≡◌, ◌++◌, length}
use Rattle.model.specs.Definitions.Text.{audit_lines}
use Rattle.audit.proofs.audit.report.Given as goal

abbrev pub invariant-loop-text : goal.invariant-loop-text
invariant-loop-text g l = (l.text.items ++ l.report.rest) ≡ audit_lines l.database.holdings

abbrev pub decreases-loop-text : goal.decreases-loop-text
decreases-loop-text g l = length l.report.rest
