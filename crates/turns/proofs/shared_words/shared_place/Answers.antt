use Rattle.std.proofs.Common.{◌≡◌, length, Some, subst, sym}
use Rattle.std.specs.Prelude.{slice_get}
use Rattle.turns.specs.Tables.{indexes_of}
use Rattle.turns.proofs.AllWords.{stands_there, is_there}
use Rattle.turns.proofs.shared_words.shared_place.Goals as goal

pub returns-in-All : goal.returns-in-All
returns-in-All c =
    subst (λ at. slice_get (indexes_of (length c.args.words.now) at) c.args.index ≡ Some c.args.index) (sym c.in-All.is)
    (stands_there (length c.args.words.now) c.args.index (is_there (length c.args.words.now) c.args.index c.requires.within))
