-- The rows so far.
use Rattle.std.proofs.Common.{◌≡◌, ◌-◌, length}
use Rattle.crew.specs.Crews.{new_owns, AreRows}
use Rattle.crew.specs.Hands.{all_parts}
use Rattle.crew.proofs.dealing.rows_of.Given as goal

abbrev pub invariant-loop-worker : goal.invariant-loop-worker
invariant-loop-worker g l =
    (l.owns ≡ new_owns (all_parts - l.worker) 0 g.M.Crewed.crew) × AreRows (length g.M.Crewed.crew) l.worker l.rows.items
