use Rattle.std.proofs.Common.{length, map, ap, ◌∙◌, sym}
use Rattle.std.specs.Prelude.{slice_index}
use Rattle.turns.specs.Tables.{indexes_of}
use Rattle.turns.proofs.AllWords.{all_words}
use Rattle.turns.proofs.shared_words.words_to_share.Goals as goal

pub returns-in-All : goal.returns-in-All
returns-in-All c = all_words c.args.words.now ∙ ap (λ at. map (slice_index c.args.words.now) (indexes_of (length c.args.words.now) at)) (sym c.in-All.is)
