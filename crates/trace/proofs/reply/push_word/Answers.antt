-- Two digits of each byte are the eight digits of the word.
use Rattle.std.proofs.Common.{string_bytes}
use Rattle.trace.proofs.Hex.{word_pushed}
use Rattle.trace.proofs.reply.push_word.Goals as goal

pub returns : goal.returns
returns c =
    word_pushed c.push_byte-4.result c.args.word c.to_be_bytes.result (string_bytes c.args.text.now) (string_bytes c.push_byte.new.text) (string_bytes c.push_byte-2.new.text) (string_bytes c.push_byte-3.new.text) (string_bytes c.push_byte-4.new.text)
    c.to_be_bytes.ensures c.in_ok-push_byte.ensures c.in_ok-push_byte-2.ensures c.in_ok-push_byte-3.ensures c.push_byte-4.ensures
