use Rattle.std.proofs.Common.{◌∙◌, ap, if◌then◌else◌}
use Rattle.turns.proofs.StripSteps.{many_steps}
use Rattle.turns.proofs.strip_work.StripWork.len.Goals as goal
use Rattle.turns.proofs.strip_work.StripWork.len.Goals.{then-is_some, else-is_some}

pub returns : goal.returns
returns c =
    λ w. many_steps w c.requires.0 c.args.self.now c.requires.1 c.requires.2 c.len.result c.if-is_some.folds (c.len.ensures ∙ c.args.self.now.indexes.ok.0)
    (elim c.if-is_some.branch [
      | then-is_some w ↦ w.folds-is ∙ ap (λ t. if t then 1 else 0) w.if-is_some.ensures
      | else-is_some w ↦ w.folds-is ∙ ap (λ t. if t then 1 else 0) w.if-is_some.ensures
    ])
