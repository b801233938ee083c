-- Each row computes.
use Rattle.std.proofs.Common.{refl}
use Rattle.std.specs.Fmt.{digits}
use Rattle.csv.specs.Machine.{next_record}
use Rattle.csv.specs.Reading.{strip_bom, records_from}
use Rattle.model.proofs.worked.rows_of_access.Goals as goal

pub returns-clause-access_answers : goal.returns-clause-access_answers
unfolding digits next_record strip_bom records_from
returns-clause-access_answers c = refl

pub returns-clause-accesses_add_up : goal.returns-clause-accesses_add_up
unfolding digits next_record strip_bom records_from
returns-clause-accesses_add_up c = refl

pub returns-clause-each_right_alone : goal.returns-clause-each_right_alone
unfolding digits next_record strip_bom records_from
returns-clause-each_right_alone c = refl

pub returns-clause-each_two_kinds : goal.returns-clause-each_two_kinds
unfolding digits next_record strip_bom records_from
returns-clause-each_two_kinds c = refl

pub returns-clause-one_page_alone : goal.returns-clause-one_page_alone
unfolding digits next_record strip_bom records_from
returns-clause-one_page_alone c = refl
