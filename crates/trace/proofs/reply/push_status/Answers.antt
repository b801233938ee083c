-- The word that is written is that of the complete space with the status.
use Rattle.std.proofs.Common.{◌≡◌, ◌++◌, subst, OnOk, string_bytes}
use Rattle.model.specs.Definitions.Text.{hex_digits}
use Rattle.trace.proofs.reply.push_status.Goals as goal

pub returns : goal.returns
returns c = subst (λ w. OnOk c.push_word.result (string_bytes c.push_word.new.text ≡ string_bytes c.args.text.now ++ hex_digits 8 w)) c.with_status.ensures.replaced c.push_word.ensures
