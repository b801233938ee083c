-- Each field that is taken leaves fewer.
use Rattle.std.proofs.Common.{length}
use Rattle.l4trace_checks.proofs.check.fields_of.Given as goal

abbrev pub decreases-loop-field : goal.decreases-loop-field
decreases-loop-field l = length l.fields
