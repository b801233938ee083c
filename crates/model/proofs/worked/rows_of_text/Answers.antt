-- Each row computes.
use Rattle.std.proofs.Common.{refl}
use Rattle.std.specs.Fmt.{digits}
use Rattle.csv.specs.Machine.{next_record}
use Rattle.csv.specs.Reading.{strip_bom, records_from}
use Rattle.model.proofs.worked.rows_of_text.Goals as goal

pub returns-clause-whole_run : goal.returns-clause-whole_run
unfolding digits next_record strip_bom records_from
returns-clause-whole_run c = refl

pub returns-clause-run_of_largest_spaces : goal.returns-clause-run_of_largest_spaces
unfolding digits next_record strip_bom records_from
returns-clause-run_of_largest_spaces c = refl

pub returns-clause-run_of_header_alone : goal.returns-clause-run_of_header_alone
unfolding digits next_record strip_bom records_from
returns-clause-run_of_header_alone c = refl

pub returns-clause-run_cut_off : goal.returns-clause-run_cut_off
unfolding digits next_record strip_bom records_from
returns-clause-run_cut_off c = refl

pub returns-clause-refusals_are_counted : goal.returns-clause-refusals_are_counted
unfolding digits next_record strip_bom records_from
returns-clause-refusals_are_counted c = refl

pub returns-clause-numbers_of_twelve_spaces : goal.returns-clause-numbers_of_twelve_spaces
unfolding digits next_record strip_bom records_from
returns-clause-numbers_of_twelve_spaces c = refl

pub returns-clause-long_run : goal.returns-clause-long_run
unfolding digits next_record strip_bom records_from
returns-clause-long_run c = refl

pub returns-clause-hexadecimal_digits : goal.returns-clause-hexadecimal_digits
unfolding digits next_record strip_bom records_from
returns-clause-hexadecimal_digits c = refl

pub returns-clause-each_set_of_rights : goal.returns-clause-each_set_of_rights
unfolding digits next_record strip_bom records_from
returns-clause-each_set_of_rights c = refl

pub returns-clause-frame_of_three_digits : goal.returns-clause-frame_of_three_digits
unfolding digits next_record strip_bom records_from
returns-clause-frame_of_three_digits c = refl

pub returns-clause-counts_of_many_pairs : goal.returns-clause-counts_of_many_pairs
unfolding digits next_record strip_bom records_from
returns-clause-counts_of_many_pairs c = refl

pub returns-clause-sixteen_pairs_are_lost : goal.returns-clause-sixteen_pairs_are_lost
unfolding digits next_record strip_bom records_from
returns-clause-sixteen_pairs_are_lost c = refl

pub returns-clause-status_as_it_is_written : goal.returns-clause-status_as_it_is_written
unfolding digits next_record strip_bom records_from
returns-clause-status_as_it_is_written c = refl
