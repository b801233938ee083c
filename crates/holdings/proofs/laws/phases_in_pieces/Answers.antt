-- Of any words and trees.
use Rattle.holdings.proofs.Phases.Whole.{touches_are_accesses, planned_strips_are_strips, stores_are_mapped, pairs_are_moved}
use Rattle.holdings.proofs.laws.phases_in_pieces.Goals as goal

pub returns-clause-touches_are_accesses : goal.returns-clause-touches_are_accesses
returns-clause-touches_are_accesses c = touches_are_accesses

pub returns-clause-planned_strips_are_strips : goal.returns-clause-planned_strips_are_strips
returns-clause-planned_strips_are_strips c = planned_strips_are_strips

pub returns-clause-stores_are_mapped : goal.returns-clause-stores_are_mapped
returns-clause-stores_are_mapped c = stores_are_mapped

pub returns-clause-pairs_are_moved : goal.returns-clause-pairs_are_moved
returns-clause-pairs_are_moved c = pairs_are_moved
