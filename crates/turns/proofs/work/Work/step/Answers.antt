use Rattle.std.proofs.Common.{◌<◌, ◌∙◌, ap, subst}
use Rattle.turns.specs.Works.{IsWork, step_count}
use Rattle.turns.proofs.LinkSteps.{pair_count}
use Rattle.turns.proofs.work.Work.step.Goals as goal

pub step-requires-in-Move-clause-left : goal.step-requires-in-Move-clause-left
step-requires-in-Move-clause-left c =
    let w = c.args.shared.now.opening.words in
    let work = subst (λ s. IsWork w c.requires.work.0 s c.args.post.now.steps) c.in-Move.is c.requires.work.2 in
    subst (λ n. c.args.post.now.steps < n) (ap (step_count w) work ∙ pair_count w c.in-Move.pairs) c.requires.work.3
