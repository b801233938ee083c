-- The laws of the entry word.
use Rattle.space.proofs.Words.{unpack_gives_back, pack_gives_back, words_are_distinct, fields_of_word, or_adds_status, pack_gains_status}
use Rattle.space.proofs.laws.entry_words.Goals as goal

pub returns-clause-unpack_gives_back : goal.returns-clause-unpack_gives_back
returns-clause-unpack_gives_back c = unpack_gives_back

pub returns-clause-pack_gives_back : goal.returns-clause-pack_gives_back
returns-clause-pack_gives_back c = pack_gives_back

pub returns-clause-words_are_distinct : goal.returns-clause-words_are_distinct
returns-clause-words_are_distinct c = words_are_distinct

pub returns-clause-fields_of_word : goal.returns-clause-fields_of_word
returns-clause-fields_of_word c = fields_of_word

pub returns-clause-or_adds_status : goal.returns-clause-or_adds_status
returns-clause-or_adds_status c = or_adds_status

pub returns-clause-pack_gains_status : goal.returns-clause-pack_gains_status
returns-clause-pack_gains_status c = pack_gains_status
