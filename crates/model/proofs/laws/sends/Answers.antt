-- The laws of one item of a send.
use Rattle.model.proofs.ItemPairs.{pairs_of_an_item}
use Rattle.model.proofs.MapOutcomes.{map_says}
use Rattle.model.proofs.GrantOutcomes.{grant_says, grant_moves_all}
use Rattle.model.proofs.SendStatuses.{map_passes_status, grant_passes_status}
use Rattle.model.proofs.Jobs.{total_counts}
use Rattle.model.proofs.laws.sends.Goals as goal

pub returns-clause-pairs_of_an_item : goal.returns-clause-pairs_of_an_item
returns-clause-pairs_of_an_item c = pairs_of_an_item

pub returns-clause-map_says : goal.returns-clause-map_says
returns-clause-map_says c = map_says

pub returns-clause-grant_says : goal.returns-clause-grant_says
returns-clause-grant_says c = grant_says

pub returns-clause-grant_moves_all : goal.returns-clause-grant_moves_all
returns-clause-grant_moves_all c = grant_moves_all

pub returns-clause-counts_add_up : goal.returns-clause-counts_add_up
returns-clause-counts_add_up c = total_counts

pub returns-clause-map_passes_status : goal.returns-clause-map_passes_status
returns-clause-map_passes_status c = map_passes_status

pub returns-clause-grant_passes_status : goal.returns-clause-grant_passes_status
returns-clause-grant_passes_status c = grant_passes_status
