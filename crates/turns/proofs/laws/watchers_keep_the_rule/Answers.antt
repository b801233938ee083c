-- Watchers come, look and are told; and the one change of an entry.
use Rattle.turns.proofs.Changes.{before_or_after, changed_after}
use Rattle.turns.proofs.Entering.{enters}
use Rattle.turns.proofs.Looking.{looks, tells}
use Rattle.turns.proofs.Moments.{moments_go_on}
use Rattle.turns.proofs.laws.watchers_keep_the_rule.Goals as goal

pub returns-clause-entering_keeps_the_rule : goal.returns-clause-entering_keeps_the_rule
returns-clause-entering_keeps_the_rule c = enters

pub returns-clause-looks_keep_the_rule : goal.returns-clause-looks_keep_the_rule
returns-clause-looks_keep_the_rule c = looks

pub returns-clause-telling_keeps_the_rule : goal.returns-clause-telling_keeps_the_rule
returns-clause-telling_keeps_the_rule c = tells

pub returns-clause-changes_are_for_good : goal.returns-clause-changes_are_for_good
returns-clause-changes_are_for_good c = before_or_after

pub returns-clause-ended_pieces_have_changed : goal.returns-clause-ended_pieces_have_changed
returns-clause-ended_pieces_have_changed c = changed_after

pub returns-clause-moments_go_on : goal.returns-clause-moments_go_on
returns-clause-moments_go_on c = moments_go_on
