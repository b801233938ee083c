use Rattle.std.proofs.Common.{◌≡◌, length, Some, ap, ◌∙◌, sym, subst}
use Rattle.std.specs.Prelude.{slice_get}
use Rattle.pieces.specs.Distinct.{is_none_of}
use Rattle.turns.specs.Tables.{indexes_of}
use Rattle.turns.proofs.AllWords.{stands_there}
use Rattle.turns.proofs.shared_words.place.Goals as goal

pub returns-in-All : goal.returns-in-All
returns-in-All c =
    subst (λ at. slice_get (indexes_of (length c.args.words.now) at) c.args.index ≡ Some c.args.index) (sym c.in-All.is)
    (stands_there (length c.args.words.now) c.args.index (ap (λ at. is_none_of (indexes_of (length c.args.words.now) at) c.args.index) (sym c.in-All.is) ∙ c.requires))
