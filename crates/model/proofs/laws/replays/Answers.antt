-- The laws of calls that change nothing, and of replays.
use Rattle.model.proofs.Joins.{refused_changes_nothing, fault_changes_nothing, no_page_named, nilpage_sends, nothing_asked, replays_join}
use Rattle.model.proofs.Starts.{start_says}
use Rattle.model.proofs.laws.replays.Goals as goal

pub returns-clause-refused_changes_nothing : goal.returns-clause-refused_changes_nothing
returns-clause-refused_changes_nothing c = refused_changes_nothing

pub returns-clause-fault_changes_nothing : goal.returns-clause-fault_changes_nothing
returns-clause-fault_changes_nothing c = fault_changes_nothing

pub returns-clause-no_page_named : goal.returns-clause-no_page_named
returns-clause-no_page_named c = no_page_named

pub returns-clause-nilpage_sends : goal.returns-clause-nilpage_sends
returns-clause-nilpage_sends c = nilpage_sends

pub returns-clause-nothing_asked : goal.returns-clause-nothing_asked
returns-clause-nothing_asked c = nothing_asked

pub returns-clause-replays_join : goal.returns-clause-replays_join
returns-clause-replays_join c = replays_join

pub returns-clause-start_says : goal.returns-clause-start_says
returns-clause-start_says c = start_says
