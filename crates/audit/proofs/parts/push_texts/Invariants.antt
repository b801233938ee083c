-- The texts so far, of which memory sufficed for each.
use Rattle.std.proofs.Common.{◌≡◌, ◌≤◌, ◌++◌, drop, take, flat_map, IsOk, vec_capacity}
use Rattle.std.specs.List.{All}
use Rattle.audit.specs.Sections.{bytes_in}
use Rattle.audit.proofs.parts.push_texts.Given as goal

abbrev pub invariant-loop-text : goal.invariant-loop-text
invariant-loop-text l = ((l.whole.items ++ flat_map bytes_in (drop l.text-index l.texts)) ≡ l.initial.whole.items ++ flat_map bytes_in l.texts) × All IsOk (take l.text-index l.texts) × (vec_capacity l.initial.whole ≤ vec_capacity l.whole)
