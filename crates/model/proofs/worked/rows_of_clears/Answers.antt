-- Each row computes.
use Rattle.std.proofs.Common.{refl}
use Rattle.std.specs.Fmt.{digits}
use Rattle.csv.specs.Machine.{next_record}
use Rattle.csv.specs.Reading.{strip_bom, records_from}
use Rattle.model.proofs.worked.rows_of_clears.Goals as goal

pub returns-clause-clear_takes_what_derives : goal.returns-clause-clear_takes_what_derives
unfolding digits next_record strip_bom records_from
returns-clause-clear_takes_what_derives c = refl

pub returns-clause-no_clear_in_version_1 : goal.returns-clause-no_clear_in_version_1
unfolding digits next_record strip_bom records_from
returns-clause-no_clear_in_version_1 c = refl

pub returns-clause-run_with_clears : goal.returns-clause-run_with_clears
unfolding digits next_record strip_bom records_from
returns-clause-run_with_clears c = refl

pub returns-clause-clear_spares_granted : goal.returns-clause-clear_spares_granted
unfolding digits next_record strip_bom records_from
returns-clause-clear_spares_granted c = refl

pub returns-clause-clear_of_empty_space : goal.returns-clause-clear_of_empty_space
unfolding digits next_record strip_bom records_from
returns-clause-clear_of_empty_space c = refl

pub returns-clause-clear_takes_nested_mapping : goal.returns-clause-clear_takes_nested_mapping
unfolding digits next_record strip_bom records_from
returns-clause-clear_takes_nested_mapping c = refl

pub returns-clause-clear_passes_status_to_each_origin : goal.returns-clause-clear_passes_status_to_each_origin
unfolding digits next_record strip_bom records_from
returns-clause-clear_passes_status_to_each_origin c = refl

pub returns-clause-accesses_round_clear : goal.returns-clause-accesses_round_clear
unfolding digits next_record strip_bom records_from
returns-clause-accesses_round_clear c = refl

pub returns-clause-clear_leaves_other_spaces : goal.returns-clause-clear_leaves_other_spaces
unfolding digits next_record strip_bom records_from
returns-clause-clear_leaves_other_spaces c = refl

pub returns-clause-clear_of_first_space : goal.returns-clause-clear_of_first_space
unfolding digits next_record strip_bom records_from
returns-clause-clear_of_first_space c = refl

pub returns-clause-forms_of_clears : goal.returns-clause-forms_of_clears
unfolding digits next_record strip_bom records_from
returns-clause-forms_of_clears c = refl
