-- The moves of seats.
use Rattle.turns.proofs.Moves.{allows, deals, takes_back}
use Rattle.turns.proofs.Closing.{opens, closes}
use Rattle.turns.proofs.SharedBits.{bits_told}
use Rattle.turns.proofs.laws.the_rule_is_kept.Goals as goal

pub returns-clause-steps_keep_the_rule : goal.returns-clause-steps_keep_the_rule
returns-clause-steps_keep_the_rule c = allows

pub returns-clause-dealing_keeps_the_rule : goal.returns-clause-dealing_keeps_the_rule
returns-clause-dealing_keeps_the_rule c = deals

pub returns-clause-taking_back_keeps_the_rule : goal.returns-clause-taking_back_keeps_the_rule
returns-clause-taking_back_keeps_the_rule c = takes_back

pub returns-clause-opening_meets_the_rule : goal.returns-clause-opening_meets_the_rule
returns-clause-opening_meets_the_rule c = opens

pub returns-clause-all_counts_tell_the_words : goal.returns-clause-all_counts_tell_the_words
returns-clause-all_counts_tell_the_words c = closes

pub returns-clause-bits_of_shared_words_are_told : goal.returns-clause-bits_of_shared_words_are_told
returns-clause-bits_of_shared_words_are_told c = bits_told
