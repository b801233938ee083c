-- Each row computes.
use Rattle.std.proofs.Common.{refl}
use Rattle.std.specs.Fmt.{digits}
use Rattle.csv.specs.Machine.{next_record}
use Rattle.csv.specs.Reading.{strip_bom, records_from}
use Rattle.model.proofs.worked.rows_of_records.Goals as goal

pub returns-clause-refusals_by_name : goal.returns-clause-refusals_by_name
unfolding digits next_record strip_bom records_from
returns-clause-refusals_by_name c = refl

pub returns-clause-access_fields : goal.returns-clause-access_fields
unfolding digits next_record strip_bom records_from
returns-clause-access_fields c = refl

pub returns-clause-send_refusals_in_order : goal.returns-clause-send_refusals_in_order
unfolding digits next_record strip_bom records_from
returns-clause-send_refusals_in_order c = refl

pub returns-clause-unmap_refusals_in_order : goal.returns-clause-unmap_refusals_in_order
unfolding digits next_record strip_bom records_from
returns-clause-unmap_refusals_in_order c = refl

pub returns-clause-numbers_of_words : goal.returns-clause-numbers_of_words
unfolding digits next_record strip_bom records_from
returns-clause-numbers_of_words c = refl

pub returns-clause-quoted_fields : goal.returns-clause-quoted_fields
unfolding digits next_record strip_bom records_from
returns-clause-quoted_fields c = refl

pub returns-clause-digits_of_addresses : goal.returns-clause-digits_of_addresses
unfolding digits next_record strip_bom records_from
returns-clause-digits_of_addresses c = refl

pub returns-clause-bytes_that_are_no_digits : goal.returns-clause-bytes_that_are_no_digits
unfolding digits next_record strip_bom records_from
returns-clause-bytes_that_are_no_digits c = refl

pub returns-clause-kinds_of_access : goal.returns-clause-kinds_of_access
unfolding digits next_record strip_bom records_from
returns-clause-kinds_of_access c = refl

pub returns-clause-names_of_records : goal.returns-clause-names_of_records
unfolding digits next_record strip_bom records_from
returns-clause-names_of_records c = refl

pub returns-clause-spaces_of_records : goal.returns-clause-spaces_of_records
unfolding digits next_record strip_bom records_from
returns-clause-spaces_of_records c = refl

pub returns-clause-lengths_of_words : goal.returns-clause-lengths_of_words
unfolding digits next_record strip_bom records_from
returns-clause-lengths_of_words c = refl

pub returns-clause-fields_missing : goal.returns-clause-fields_missing
unfolding digits next_record strip_bom records_from
returns-clause-fields_missing c = refl

pub returns-clause-refusals_of_one_record : goal.returns-clause-refusals_of_one_record
unfolding digits next_record strip_bom records_from
returns-clause-refusals_of_one_record c = refl
