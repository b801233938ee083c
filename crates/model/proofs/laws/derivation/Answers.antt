-- The laws of derivation.
use Rattle.model.proofs.Derivations.{below_is_a_chain, under_is_a_chain, chains_end, chains_are_held, below_both_sets, none_from_itself, nest_or_apart}
use Rattle.model.proofs.laws.derivation.Goals as goal

pub returns-clause-below_is_a_chain : goal.returns-clause-below_is_a_chain
returns-clause-below_is_a_chain c = below_is_a_chain

pub returns-clause-under_is_a_chain : goal.returns-clause-under_is_a_chain
returns-clause-under_is_a_chain c = under_is_a_chain

pub returns-clause-chains_end : goal.returns-clause-chains_end
returns-clause-chains_end c = chains_end

pub returns-clause-chains_are_held : goal.returns-clause-chains_are_held
returns-clause-chains_are_held c = chains_are_held

pub returns-clause-below_both_sets : goal.returns-clause-below_both_sets
returns-clause-below_both_sets c = below_both_sets

pub returns-clause-none_from_itself : goal.returns-clause-none_from_itself
returns-clause-none_from_itself c = none_from_itself

pub returns-clause-nest_or_apart : goal.returns-clause-nest_or_apart
returns-clause-nest_or_apart c = nest_or_apart
