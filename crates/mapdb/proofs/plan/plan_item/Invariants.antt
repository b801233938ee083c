-- The pages so far are decided.
use Rattle.std.proofs.Common.{◌≤◌, ◌-◌}
use Rattle.mapdb.specs.Sending.{IsDecided}
use Rattle.mapdb.proofs.plan.plan_item.Given as goal

abbrev pub invariant-loop-i : goal.invariant-loop-i
invariant-loop-i l = record { within : l.i ≤ l.pages.count; decided : IsDecided l.held.holdings l.pages l.i l.plan }

abbrev pub decreases-loop-i : goal.decreases-loop-i
decreases-loop-i l = l.pages.count - l.i
