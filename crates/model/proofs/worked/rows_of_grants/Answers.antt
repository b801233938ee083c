-- Each row computes.
use Rattle.std.proofs.Common.{refl}
use Rattle.std.specs.Fmt.{digits}
use Rattle.csv.specs.Machine.{next_record}
use Rattle.csv.specs.Reading.{strip_bom, records_from}
use Rattle.model.proofs.worked.rows_of_grants.Goals as goal

pub returns-clause-grant_moves_and_narrows : goal.returns-clause-grant_moves_and_narrows
unfolding digits next_record strip_bom records_from
returns-clause-grant_moves_and_narrows c = refl

pub returns-clause-grant_renames_all_at_once : goal.returns-clause-grant_renames_all_at_once
unfolding digits next_record strip_bom records_from
returns-clause-grant_renames_all_at_once c = refl

pub returns-clause-root_is_granted : goal.returns-clause-root_is_granted
unfolding digits next_record strip_bom records_from
returns-clause-root_is_granted c = refl

pub returns-clause-grant_replaces_target : goal.returns-clause-grant_replaces_target
unfolding digits next_record strip_bom records_from
returns-clause-grant_replaces_target c = refl

pub returns-clause-grant_onto_own_derived : goal.returns-clause-grant_onto_own_derived
unfolding digits next_record strip_bom records_from
returns-clause-grant_onto_own_derived c = refl

pub returns-clause-grant_of_flushed_source_is_lost : goal.returns-clause-grant_of_flushed_source_is_lost
unfolding digits next_record strip_bom records_from
returns-clause-grant_of_flushed_source_is_lost c = refl

pub returns-clause-grant_removes_what_is_withheld : goal.returns-clause-grant_removes_what_is_withheld
unfolding digits next_record strip_bom records_from
returns-clause-grant_removes_what_is_withheld c = refl

pub returns-clause-grant_passes_status_on : goal.returns-clause-grant_passes_status_on
unfolding digits next_record strip_bom records_from
returns-clause-grant_passes_status_on c = refl

pub returns-clause-send_bases_of_grants : goal.returns-clause-send_bases_of_grants
unfolding digits next_record strip_bom records_from
returns-clause-send_bases_of_grants c = refl

pub returns-clause-grant_passes_status_of_target : goal.returns-clause-grant_passes_status_of_target
unfolding digits next_record strip_bom records_from
returns-clause-grant_passes_status_of_target c = refl

pub returns-clause-grant_onto_own_derived_passes_status : goal.returns-clause-grant_onto_own_derived_passes_status
unfolding digits next_record strip_bom records_from
returns-clause-grant_onto_own_derived_passes_status c = refl

pub returns-clause-grant_leaves_other_status : goal.returns-clause-grant_leaves_other_status
unfolding digits next_record strip_bom records_from
returns-clause-grant_leaves_other_status c = refl

pub returns-clause-grant_renames_each_origin : goal.returns-clause-grant_renames_each_origin
unfolding digits next_record strip_bom records_from
returns-clause-grant_renames_each_origin c = refl

pub returns-clause-grant_of_several_pages : goal.returns-clause-grant_of_several_pages
unfolding digits next_record strip_bom records_from
returns-clause-grant_of_several_pages c = refl
