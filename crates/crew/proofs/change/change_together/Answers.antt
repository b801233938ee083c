-- The closure calls the function that was given.
use Rattle.crew.proofs.Changed.{changed_by}
use Rattle.crew.proofs.change.change_together.Goals as goal

pub returns : goal.returns
returns g c = changed_by _ _ (λ start before after call. call) 0 c.args.trees.now c.change_parts.new.trees c.change_parts.result c.change_parts.ensures
