-- One call changes all of the list.
use Rattle.std.proofs.Common.{refl}
use Rattle.crew.proofs.Changed.{given_all, changed_at_once}
use Rattle.crew.proofs.change.change_at_once.Goals as goal

pub change-requires : goal.change-requires
change-requires g c = given_all (λ n p. g.F.Fn.pre c.args.change.now (n, (p, tt))) c.args.start c.args.trees.now c.requires.may _ refl

pub returns : goal.returns
returns g c = changed_at_once _ c.args.start _ _ c.change.result c.change.ensures
