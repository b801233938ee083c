-- The laws of isolation.
use Rattle.model.proofs.Isolations.{strip_isolates, derived_goes_too}
use Rattle.model.proofs.laws.isolation.Goals as goal

pub returns-clause-strip_isolates : goal.returns-clause-strip_isolates
returns-clause-strip_isolates c = strip_isolates

pub returns-clause-derived_goes_too : goal.returns-clause-derived_goes_too
returns-clause-derived_goes_too c = derived_goes_too
