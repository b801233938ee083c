-- The word of a clear stands behind its name.
use Rattle.std.proofs.Common.{◌≡◌, ◌++◌, subst, OnOk, codes, rules, string_bytes, ap, sym}
use Rattle.model.specs.Definitions.Calls.{Reply}
use Rattle.model.specs.Definitions.Text.{reply_text, clear_word, hex_digits}
use Rattle.trace.specs.Meaning.{reply_of}
use Rattle.mapdb.specs.declared.reply.Reply.TheVariants.{Cleared}
use Rattle.trace.proofs.Told.{told_behind}
use Rattle.trace.proofs.reply.push_answer.Goals as goal

pub returns-in_ok-push_str-in-Cleared : goal.returns-in_ok-push_str-in-Cleared
returns-in_ok-push_str-in-Cleared c =
    let status = c.in-Cleared.status in
    let is : c.args.reply.now ≡ Cleared status = cc c.in-Cleared.is in
    let first : string_bytes c.push_str-in-Cleared.new.self ≡ string_bytes c.args.text.now ++ codes "clear " = search rules in
    let P : Reply → Type 0 = λ r. OnOk c.push_status.result (string_bytes c.push_status.new.text ≡ string_bytes c.args.text.now ++ reply_text r) in
    subst P (ap reply_of (sym is))
    (told_behind c.push_status.result (string_bytes c.args.text.now) (string_bytes c.push_str-in-Cleared.new.self) (string_bytes c.push_status.new.text) (codes "clear ") (hex_digits 8 (clear_word status)) first c.push_status.ensures)
