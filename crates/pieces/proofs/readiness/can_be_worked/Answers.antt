-- The tests are what is asked.
use Rattle.std.proofs.Common.{sym, ◌∙◌}
use Rattle.pieces.proofs.ReadyTests.{no_words}
use Rattle.pieces.proofs.readiness.can_be_worked.Goals as goal

pub returns-then-not-words_suit : goal.returns-then-not-words_suit
returns-then-not-words_suit c = no_words c.args.words.now c.args.pieces.now (sym c.words_suit.ensures ∙ c.if-not-words_suit.true)
