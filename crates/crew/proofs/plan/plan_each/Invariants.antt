-- What was answered for the parts so far.
use Rattle.std.proofs.Common.{◌≡◌, ℕ, ◌<◌, length, slice_index_or}
use Rattle.crew.proofs.plan.plan_each.Given as goal

abbrev pub invariant-loop-part : goal.invariant-loop-part
invariant-loop-part g l = record { count : length l.planned.items ≡ l.part; each : (k : ℕ) (d : _) → k < l.part → g.F.Fn.post l.plan (k, tt) (slice_index_or l.planned.items k d) }
