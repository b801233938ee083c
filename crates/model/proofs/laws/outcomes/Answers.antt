-- The laws of outcomes.
use Rattle.model.proofs.FateOutcomes.{fate_says, counts_say, sends_join, replies_add_up}
use Rattle.model.proofs.laws.outcomes.Goals as goal

pub returns-clause-fate_says : goal.returns-clause-fate_says
returns-clause-fate_says c = fate_says

pub returns-clause-counts_say : goal.returns-clause-counts_say
returns-clause-counts_say c = counts_say

pub returns-clause-sends_join : goal.returns-clause-sends_join
returns-clause-sends_join c = sends_join

pub returns-clause-replies_add_up : goal.returns-clause-replies_add_up
returns-clause-replies_add_up c = replies_add_up
