-- The part so far, with what is to come, is all of it.
use Rattle.std.proofs.Common.{◌≡◌, ◌-◌, ◌≤◌, ◌++◌, length, drop, vec_capacity}
use Rattle.model.specs.Definitions.Text.{audit_lines}
use Rattle.mapdb.specs.Held.{held_from}
use Rattle.audit.specs.Parts.{left_of}
use Rattle.audit.proofs.parts.Report.push_in_turn.Given as goal

abbrev pub invariant-loop-self : goal.invariant-loop-self
invariant-loop-self l =
    let r = l.self-inside in
    (r.told ≤ length r.spaces.items) × (64 ≤ vec_capacity r.text) × ((l.fn.self.part ++ l.fn.self.rest) ≡ r.text.items ++ audit_lines (left_of (held_from r.mappings) (drop r.told r.spaces.items) r.page))

abbrev pub decreases-loop-self : goal.decreases-loop-self
decreases-loop-self l = length l.self-inside.spaces.items - l.self-inside.told
