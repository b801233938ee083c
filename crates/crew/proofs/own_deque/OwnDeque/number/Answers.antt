use Rattle.std.proofs.lemmas.Option.{slice_get_within}
use Rattle.crew.proofs.own_deque.OwnDeque.number.Goals as goal

pub returns-clause-below : goal.returns-clause-below
returns-clause-below g c = slice_get_within g.M.Crewed.crew c.self.inside.number _ c.self.invariant.dealt
