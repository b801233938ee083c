-- A part less each time.
use Rattle.std.proofs.Common.{◌+◌, ◌*◌}
use Rattle.crew.proofs.plan.+parts.Given as goal

abbrev pub decreases-plan_parts : goal.decreases-plan_parts
decreases-plan_parts g l = 2 * l.parts

abbrev pub decreases-ours : goal.decreases-ours
decreases-ours g l = 2 * l.last + 1
