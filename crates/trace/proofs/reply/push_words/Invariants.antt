-- the words so far are written
use Rattle.std.proofs.Common.{◌≡◌, ◌++◌, take, string_bytes}
use Rattle.model.specs.Definitions.Text.{words_text}
use Rattle.trace.proofs.reply.push_words.Given as goal

abbrev pub invariant-loop-word : goal.invariant-loop-word
invariant-loop-word l = string_bytes l.text ≡ string_bytes l.fn.text ++ words_text (take l.word-index l.words)
