use Rattle.std.proofs.Common.{◌∙◌, ap, not}
use Rattle.std.specs.Prelude.{◌==◌}
use Rattle.turns.proofs.TouchSteps.{all_done, not_yet}
use Rattle.turns.proofs.touch_work.TouchWork.is_done.Goals as goal

pub returns-then-not-self : goal.returns-then-not-self
returns-then-not-self c = λ w k work. ap (λ n. c.args.self.now.seen == n) c.len.ensures.len ∙ all_done w k c.args.self.now work c.if-not-self.true

pub returns-else-not-self : goal.returns-else-not-self
returns-else-not-self c = λ w k work. ap not c.if-not-self.false ∙ not_yet w k c.args.self.now work c.if-not-self.false
