-- The laws of refusals.
use Rattle.model.proofs.RefusalOutcomes.{send_refusals, unmap_refusals, clear_refusals, access_refusals}
use Rattle.model.proofs.laws.refusals.Goals as goal

pub returns-clause-send_refusals : goal.returns-clause-send_refusals
returns-clause-send_refusals c = send_refusals

pub returns-clause-unmap_refusals : goal.returns-clause-unmap_refusals
returns-clause-unmap_refusals c = unmap_refusals

pub returns-clause-clear_refusals : goal.returns-clause-clear_refusals
returns-clause-clear_refusals c = clear_refusals

pub returns-clause-access_refusals : goal.returns-clause-access_refusals
returns-clause-access_refusals c = access_refusals
