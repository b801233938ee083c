-- The lines so far, with those of the mappings to come, are all of them.
use Rattle.std.proofs.Common.{◌≡◌, ◌≤◌, ◌++◌, length, vec_capacity}
use Rattle.model.specs.Definitions.Text.{audit_lines}
use Rattle.mapdb.specs.Held.{held_from}
use Rattle.audit.proofs.parts.push_some.Given as goal

abbrev pub invariant-loop-line : goal.invariant-loop-line
invariant-loop-line l = (l.from.space ≡ l.initial.from.space)
    × ((l.initial.text.items ++ audit_lines (held_from l.mappings l.initial.from.space l.initial.from.page)) ≡ l.text.items ++ audit_lines (held_from l.mappings l.initial.from.space l.from.page))
    × (vec_capacity l.initial.text ≤ vec_capacity l.text)

abbrev pub decreases-loop-line : goal.decreases-loop-line
decreases-loop-line l = length (held_from l.mappings l.initial.from.space l.from.page)
