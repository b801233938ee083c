-- The workers so far, and a row for each to come.
use Rattle.std.proofs.Common.{◌≡◌, ◌-◌, length}
use Rattle.crew.specs.Crews.{AreNumberedFrom, AreRows}
use Rattle.crew.proofs.dealing.with_rows.Given as goal

abbrev pub invariant-loop-own : goal.invariant-loop-own
invariant-loop-own g l =
    AreNumberedFrom 0 l.workers.items × (length l.workers.items ≡ length l.yielded) × AreRows (length g.M.Crewed.crew) (length g.M.Crewed.crew - length l.yielded) l.rows.items
