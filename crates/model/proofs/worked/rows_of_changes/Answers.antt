-- Each row computes.
use Rattle.std.proofs.Common.{refl}
use Rattle.std.specs.Fmt.{digits}
use Rattle.csv.specs.Machine.{next_record}
use Rattle.csv.specs.Reading.{strip_bom, records_from}
use Rattle.model.proofs.worked.rows_of_changes.Goals as goal

pub returns-clause-map_sets_target : goal.returns-clause-map_sets_target
unfolding digits next_record strip_bom records_from
returns-clause-map_sets_target c = refl

pub returns-clause-grant_removes_source : goal.returns-clause-grant_removes_source
unfolding digits next_record strip_bom records_from
returns-clause-grant_removes_source c = refl

pub returns-clause-unmap_changes_what_derives : goal.returns-clause-unmap_changes_what_derives
unfolding digits next_record strip_bom records_from
returns-clause-unmap_changes_what_derives c = refl

pub returns-clause-flush_removes_chain : goal.returns-clause-flush_removes_chain
unfolding digits next_record strip_bom records_from
returns-clause-flush_removes_chain c = refl

pub returns-clause-extension_sets_target : goal.returns-clause-extension_sets_target
unfolding digits next_record strip_bom records_from
returns-clause-extension_sets_target c = refl

pub returns-clause-status_changes_nothing : goal.returns-clause-status_changes_nothing
unfolding digits next_record strip_bom records_from
returns-clause-status_changes_nothing c = refl

pub returns-clause-replaced_target_removes_its_derived : goal.returns-clause-replaced_target_removes_its_derived
unfolding digits next_record strip_bom records_from
returns-clause-replaced_target_removes_its_derived c = refl

pub returns-clause-origin_changes_nothing : goal.returns-clause-origin_changes_nothing
unfolding digits next_record strip_bom records_from
returns-clause-origin_changes_nothing c = refl

pub returns-clause-changes_of_holdings : goal.returns-clause-changes_of_holdings
unfolding digits next_record strip_bom records_from
returns-clause-changes_of_holdings c = refl

pub returns-clause-changes_in_order : goal.returns-clause-changes_in_order
unfolding digits next_record strip_bom records_from
returns-clause-changes_in_order c = refl

pub returns-clause-tables_after_calls : goal.returns-clause-tables_after_calls
unfolding digits next_record strip_bom records_from
returns-clause-tables_after_calls c = refl
