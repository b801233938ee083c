-- The laws of clear.
use Rattle.model.proofs.ClearOutcomes.{clear_says, clear_is_unmap}
use Rattle.model.proofs.laws.clears.Goals as goal

pub returns-clause-clear_says : goal.returns-clause-clear_says
returns-clause-clear_says c = clear_says

pub returns-clause-clear_is_unmap : goal.returns-clause-clear_is_unmap
returns-clause-clear_is_unmap c = clear_is_unmap
