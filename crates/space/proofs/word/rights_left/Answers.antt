use Rattle.std.proofs.Common.{◌%◌, ◌-◌, ap, ◌∙◌}
use Rattle.std.specs.Prelude.{bit_and}
use Rattle.space.proofs.RightsLeft.{left_number}
use Rattle.space.proofs.word.rights_left.Goals as goal

pub returns : goal.returns
returns c = ap (bit_and (c.args.word % 8)) (c.from.ensures ∙ ap (λ n. 7 - n) c.number.ensures) ∙ left_number c.args.word c.args.revoked
