-- Each row computes.
use Rattle.std.proofs.Common.{refl}
use Rattle.std.specs.Fmt.{digits}
use Rattle.csv.specs.Machine.{next_record}
use Rattle.csv.specs.Reading.{strip_bom, records_from}
use Rattle.model.proofs.worked.rows_of_outcomes.Goals as goal

pub returns-clause-each_outcome : goal.returns-clause-each_outcome
unfolding digits next_record strip_bom records_from
returns-clause-each_outcome c = refl

pub returns-clause-withheld_rights_are_no_rights : goal.returns-clause-withheld_rights_are_no_rights
unfolding digits next_record strip_bom records_from
returns-clause-withheld_rights_are_no_rights c = refl

pub returns-clause-no_rights_comes_first : goal.returns-clause-no_rights_comes_first
unfolding digits next_record strip_bom records_from
returns-clause-no_rights_comes_first c = refl

pub returns-clause-origin_is_not_replaced : goal.returns-clause-origin_is_not_replaced
unfolding digits next_record strip_bom records_from
returns-clause-origin_is_not_replaced c = refl

pub returns-clause-distant_origin_is_not_replaced : goal.returns-clause-distant_origin_is_not_replaced
unfolding digits next_record strip_bom records_from
returns-clause-distant_origin_is_not_replaced c = refl

pub returns-clause-distant_derived_is_replaced : goal.returns-clause-distant_derived_is_replaced
unfolding digits next_record strip_bom records_from
returns-clause-distant_derived_is_replaced c = refl

pub returns-clause-flushed_source_is_lost : goal.returns-clause-flushed_source_is_lost
unfolding digits next_record strip_bom records_from
returns-clause-flushed_source_is_lost c = refl

pub returns-clause-extending_pair_is_lost : goal.returns-clause-extending_pair_is_lost
unfolding digits next_record strip_bom records_from
returns-clause-extending_pair_is_lost c = refl

pub returns-clause-target_of_lost_pair_is_gone : goal.returns-clause-target_of_lost_pair_is_gone
unfolding digits next_record strip_bom records_from
returns-clause-target_of_lost_pair_is_gone c = refl

pub returns-clause-two_items_in_order : goal.returns-clause-two_items_in_order
unfolding digits next_record strip_bom records_from
returns-clause-two_items_in_order c = refl

pub returns-clause-second_item_sees_first : goal.returns-clause-second_item_sees_first
unfolding digits next_record strip_bom records_from
returns-clause-second_item_sees_first c = refl

pub returns-clause-absent_comes_first : goal.returns-clause-absent_comes_first
unfolding digits next_record strip_bom records_from
returns-clause-absent_comes_first c = refl

pub returns-clause-origin_at_each_distance : goal.returns-clause-origin_at_each_distance
unfolding digits next_record strip_bom records_from
returns-clause-origin_at_each_distance c = refl

pub returns-clause-origin_of_eight_mappings : goal.returns-clause-origin_of_eight_mappings
unfolding digits next_record strip_bom records_from
returns-clause-origin_of_eight_mappings c = refl

pub returns-clause-no_rights_of_flushed_source : goal.returns-clause-no_rights_of_flushed_source
unfolding digits next_record strip_bom records_from
returns-clause-no_rights_of_flushed_source c = refl

pub returns-clause-origin_of_flushed_source : goal.returns-clause-origin_of_flushed_source
unfolding digits next_record strip_bom records_from
returns-clause-origin_of_flushed_source c = refl

pub returns-clause-second_item_tells_origin : goal.returns-clause-second_item_tells_origin
unfolding digits next_record strip_bom records_from
returns-clause-second_item_tells_origin c = refl

pub returns-clause-counts_of_items_add_up : goal.returns-clause-counts_of_items_add_up
unfolding digits next_record strip_bom records_from
returns-clause-counts_of_items_add_up c = refl
