-- Each row computes.
use Rattle.std.proofs.Common.{refl}
use Rattle.std.specs.Fmt.{digits}
use Rattle.csv.specs.Machine.{next_record}
use Rattle.csv.specs.Reading.{strip_bom, records_from}
use Rattle.model.proofs.worked.rows_of_headers.Goals as goal

pub returns-clause-headers_of_right_form : goal.returns-clause-headers_of_right_form
unfolding digits next_record strip_bom records_from
returns-clause-headers_of_right_form c = refl

pub returns-clause-headers_of_wrong_form : goal.returns-clause-headers_of_wrong_form
unfolding digits next_record strip_bom records_from
returns-clause-headers_of_wrong_form c = refl

pub returns-clause-limits_passed : goal.returns-clause-limits_passed
unfolding digits next_record strip_bom records_from
returns-clause-limits_passed c = refl

pub returns-clause-bits_of_headers : goal.returns-clause-bits_of_headers
unfolding digits next_record strip_bom records_from
returns-clause-bits_of_headers c = refl

pub returns-clause-frames_past_spaces : goal.returns-clause-frames_past_spaces
unfolding digits next_record strip_bom records_from
returns-clause-frames_past_spaces c = refl

pub returns-clause-fields_of_headers : goal.returns-clause-fields_of_headers
unfolding digits next_record strip_bom records_from
returns-clause-fields_of_headers c = refl
