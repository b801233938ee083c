-- The law of accesses.
use Rattle.model.proofs.AccessOutcomes.{access_says}
use Rattle.model.proofs.laws.accesses.Goals as goal

pub returns : goal.returns
returns c = record { access_says = access_says }
