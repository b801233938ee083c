use Rattle.std.proofs.Common.{◌%◌, ◌-◌, ◌+◌, ap, ◌∙◌}
use Rattle.std.specs.Prelude.{bit_and}
use Rattle.space.proofs.RightsLeft.{met_number}
use Rattle.space.proofs.Words.{mapped_fields}
use Rattle.space.proofs.word.mapped_word.Goals as goal

pub returns : goal.returns
returns c =
    let word = c.args.word in
    ap (λ n. word - word % 64 + n) (ap (bit_and (word % 8)) (c.from.ensures ∙ c.number.ensures) ∙ met_number word c.args.through) ∙ mapped_fields word c.args.through c.requires
