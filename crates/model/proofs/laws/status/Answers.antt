-- The laws of status.
use Rattle.model.proofs.Statuses.{word_is_the_union, status_is_cleared, outside_gains, no_bit_is_lost}
use Rattle.model.proofs.laws.status.Goals as goal

pub returns-clause-word_is_the_union : goal.returns-clause-word_is_the_union
returns-clause-word_is_the_union c = word_is_the_union

pub returns-clause-status_is_cleared : goal.returns-clause-status_is_cleared
returns-clause-status_is_cleared c = status_is_cleared

pub returns-clause-outside_gains : goal.returns-clause-outside_gains
returns-clause-outside_gains c = outside_gains

pub returns-clause-no_bit_is_lost : goal.returns-clause-no_bit_is_lost
returns-clause-no_bit_is_lost c = no_bit_is_lost
