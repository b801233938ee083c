use Rattle.std.proofs.Common.{length, ap, ◌∙◌}
use Rattle.std.proofs.lemmas.List.FromFn.{length-range_with_len}
use Rattle.turns.specs.Tables.{indexes_of}
use Rattle.turns.proofs.shared_words.put_back.Goals as goal

pub put_all_back-requires-clause-each : goal.put_all_back-requires-clause-each
put_all_back-requires-clause-each c =
    c.requires.each ∙ ap (λ at. length (indexes_of (length c.args.words.now) at)) c.in-All.is ∙ length-range_with_len 0 (length c.args.words.now)
