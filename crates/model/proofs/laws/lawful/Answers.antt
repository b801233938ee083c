-- Holdings stay lawful.
use Rattle.model.proofs.LawfulMeanings.{lawful_means}
use Rattle.model.proofs.Touches.{derived_holds_no_more, touch_keeps_lawful, strip_keeps_lawful}
use Rattle.model.proofs.Requests.{map_keeps_lawful, grant_keeps_lawful, request_keeps_lawful, replay_is_lawful}
use Rattle.model.proofs.Starts.{start_is_lawful}
use Rattle.model.proofs.laws.lawful.Goals as goal

pub returns-clause-lawful_means : goal.returns-clause-lawful_means
returns-clause-lawful_means c = lawful_means

pub returns-clause-derived_holds_no_more : goal.returns-clause-derived_holds_no_more
returns-clause-derived_holds_no_more c = derived_holds_no_more

pub returns-clause-touch_keeps_lawful : goal.returns-clause-touch_keeps_lawful
returns-clause-touch_keeps_lawful c = touch_keeps_lawful

pub returns-clause-strip_keeps_lawful : goal.returns-clause-strip_keeps_lawful
returns-clause-strip_keeps_lawful c = strip_keeps_lawful

pub returns-clause-map_keeps_lawful : goal.returns-clause-map_keeps_lawful
returns-clause-map_keeps_lawful c = map_keeps_lawful

pub returns-clause-grant_keeps_lawful : goal.returns-clause-grant_keeps_lawful
returns-clause-grant_keeps_lawful c = grant_keeps_lawful

pub returns-clause-request_keeps_lawful : goal.returns-clause-request_keeps_lawful
returns-clause-request_keeps_lawful c = request_keeps_lawful

pub returns-clause-replay_is_lawful : goal.returns-clause-replay_is_lawful
returns-clause-replay_is_lawful c = replay_is_lawful

pub returns-clause-start_is_lawful : goal.returns-clause-start_is_lawful
returns-clause-start_is_lawful c = start_is_lawful
