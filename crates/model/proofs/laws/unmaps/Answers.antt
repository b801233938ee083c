-- The laws of unmap.
use Rattle.model.proofs.UnmapOutcomes.{unmap_names_its_own, unmap_says, unmaps_join}
use Rattle.model.proofs.laws.unmaps.Goals as goal

pub returns-clause-unmap_names_its_own : goal.returns-clause-unmap_names_its_own
returns-clause-unmap_names_its_own c = unmap_names_its_own

pub returns-clause-unmap_says : goal.returns-clause-unmap_says
returns-clause-unmap_says c = unmap_says

pub returns-clause-unmaps_join : goal.returns-clause-unmaps_join
returns-clause-unmaps_join c = unmaps_join
