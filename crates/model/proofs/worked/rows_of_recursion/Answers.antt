-- Each row computes.
use Rattle.std.proofs.Common.{refl}
use Rattle.std.specs.Fmt.{digits}
use Rattle.csv.specs.Machine.{next_record}
use Rattle.csv.specs.Reading.{strip_bom, records_from}
use Rattle.model.proofs.worked.rows_of_recursion.Goals as goal

pub returns-clause-nested_mapping_by_recursion : goal.returns-clause-nested_mapping_by_recursion
unfolding digits next_record strip_bom records_from
returns-clause-nested_mapping_by_recursion c = refl

pub returns-clause-nested_mapping_of_higher_page : goal.returns-clause-nested_mapping_of_higher_page
unfolding digits next_record strip_bom records_from
returns-clause-nested_mapping_of_higher_page c = refl

pub returns-clause-status_by_recursion : goal.returns-clause-status_by_recursion
unfolding digits next_record strip_bom records_from
returns-clause-status_by_recursion c = refl

pub returns-clause-nested_status_of_lower_page : goal.returns-clause-nested_status_of_lower_page
unfolding digits next_record strip_bom records_from
returns-clause-nested_status_of_lower_page c = refl

pub returns-clause-nested_status_of_higher_page : goal.returns-clause-nested_status_of_higher_page
unfolding digits next_record strip_bom records_from
returns-clause-nested_status_of_higher_page c = refl

pub returns-clause-flush_by_recursion : goal.returns-clause-flush_by_recursion
unfolding digits next_record strip_bom records_from
returns-clause-flush_by_recursion c = refl

pub returns-clause-flush_of_nested_by_recursion : goal.returns-clause-flush_of_nested_by_recursion
unfolding digits next_record strip_bom records_from
returns-clause-flush_of_nested_by_recursion c = refl

pub returns-clause-flush_of_nested_higher_page : goal.returns-clause-flush_of_nested_higher_page
unfolding digits next_record strip_bom records_from
returns-clause-flush_of_nested_higher_page c = refl

pub returns-clause-branches_by_recursion : goal.returns-clause-branches_by_recursion
unfolding digits next_record strip_bom records_from
returns-clause-branches_by_recursion c = refl

pub returns-clause-deep_chain_by_recursion : goal.returns-clause-deep_chain_by_recursion
unfolding digits next_record strip_bom records_from
returns-clause-deep_chain_by_recursion c = refl

pub returns-clause-origin_gains_by_recursion : goal.returns-clause-origin_gains_by_recursion
unfolding digits next_record strip_bom records_from
returns-clause-origin_gains_by_recursion c = refl
