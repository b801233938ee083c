-- The closure calls the function that was given.
use Rattle.crew.proofs.Changed.{changed_by}
use Rattle.crew.proofs.change.change_alone.Goals as goal

pub returns : goal.returns
returns g c = changed_by _ _ (λ start before after call. call) 0 c.args.trees.now c.change_at_once.new.trees c.change_at_once.result c.change_at_once.ensures
