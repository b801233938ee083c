-- Each row computes.
use Rattle.std.proofs.Common.{refl}
use Rattle.std.specs.Fmt.{digits}
use Rattle.csv.specs.Machine.{next_record}
use Rattle.csv.specs.Reading.{strip_bom, records_from}
use Rattle.model.proofs.worked.rows_of_maps.Goals as goal

pub returns-clause-second_map_extends : goal.returns-clause-second_map_extends
unfolding digits next_record strip_bom records_from
returns-clause-second_map_extends c = refl

pub returns-clause-replaced_target_takes_its_derived : goal.returns-clause-replaced_target_takes_its_derived
unfolding digits next_record strip_bom records_from
returns-clause-replaced_target_takes_its_derived c = refl

pub returns-clause-extend_keeps_status_and_derived : goal.returns-clause-extend_keeps_status_and_derived
unfolding digits next_record strip_bom records_from
returns-clause-extend_keeps_status_and_derived c = refl

pub returns-clause-flush_passes_status_on : goal.returns-clause-flush_passes_status_on
unfolding digits next_record strip_bom records_from
returns-clause-flush_passes_status_on c = refl

pub returns-clause-extension_beside_flush : goal.returns-clause-extension_beside_flush
unfolding digits next_record strip_bom records_from
returns-clause-extension_beside_flush c = refl

pub returns-clause-replaced_target_passes_all_status : goal.returns-clause-replaced_target_passes_all_status
unfolding digits next_record strip_bom records_from
returns-clause-replaced_target_passes_all_status c = refl

pub returns-clause-source_gains_by_flush : goal.returns-clause-source_gains_by_flush
unfolding digits next_record strip_bom records_from
returns-clause-source_gains_by_flush c = refl

pub returns-clause-extension_gains_what_source_has : goal.returns-clause-extension_gains_what_source_has
unfolding digits next_record strip_bom records_from
returns-clause-extension_gains_what_source_has c = refl

pub returns-clause-extension_gains_what_fpage_names : goal.returns-clause-extension_gains_what_fpage_names
unfolding digits next_record strip_bom records_from
returns-clause-extension_gains_what_fpage_names c = refl

pub returns-clause-replaced_target_leaves_no_right : goal.returns-clause-replaced_target_leaves_no_right
unfolding digits next_record strip_bom records_from
returns-clause-replaced_target_leaves_no_right c = refl

pub returns-clause-source_keeps_status : goal.returns-clause-source_keeps_status
unfolding digits next_record strip_bom records_from
returns-clause-source_keeps_status c = refl

pub returns-clause-root_is_replaced : goal.returns-clause-root_is_replaced
unfolding digits next_record strip_bom records_from
returns-clause-root_is_replaced c = refl
