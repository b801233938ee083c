-- The text so far, with that of the mappings to come, is that before and that of the space.
use Rattle.std.proofs.Common.{◌≡◌, ◌++◌, length}
use Rattle.model.specs.Definitions.Text.{audit_lines}
use Rattle.mapdb.specs.Held.{held_from}
use Rattle.audit.proofs.parts.push_space.Given as goal

abbrev pub invariant-loop-line : goal.invariant-loop-line
invariant-loop-line l = (l.from.space ≡ l.space) × ((l.text.items ++ audit_lines (held_from l.mappings l.space l.from.page)) ≡ l.initial.text.items ++ audit_lines (held_from l.mappings l.space 0))

abbrev pub decreases-loop-line : goal.decreases-loop-line
decreases-loop-line l = length (held_from l.mappings l.space l.from.page)
