use Rattle.turns.proofs.TouchSteps.{all_answered}
use Rattle.turns.proofs.touch_work.TouchWork.into_answers.Goals as goal

pub returns : goal.returns
returns c = λ w work. all_answered w c.args.self work
