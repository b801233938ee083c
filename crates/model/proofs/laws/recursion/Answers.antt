-- The recursion is the set definition.
use Rattle.model.proofs.Recursions.{recursion_law, strips_join}
use Rattle.model.proofs.laws.recursion.Goals as goal

pub returns-clause-recursion_is_strip : goal.returns-clause-recursion_is_strip
returns-clause-recursion_is_strip c = recursion_law

pub returns-clause-strips_join : goal.returns-clause-strips_join
returns-clause-strips_join c = strips_join
