-- Each row computes.
use Rattle.std.proofs.Common.{refl}
use Rattle.std.specs.Fmt.{digits}
use Rattle.csv.specs.Machine.{next_record}
use Rattle.csv.specs.Reading.{strip_bom, records_from}
use Rattle.model.proofs.worked.rows_of_unmaps.Goals as goal

pub returns-clause-unmap_narrows_derived_alone : goal.returns-clause-unmap_narrows_derived_alone
unfolding digits next_record strip_bom records_from
returns-clause-unmap_narrows_derived_alone c = refl

pub returns-clause-status_goes_to_outside_origin : goal.returns-clause-status_goes_to_outside_origin
unfolding digits next_record strip_bom records_from
returns-clause-status_goes_to_outside_origin c = refl

pub returns-clause-nested_mapping_in_own_space : goal.returns-clause-nested_mapping_in_own_space
unfolding digits next_record strip_bom records_from
returns-clause-nested_mapping_in_own_space c = refl

pub returns-clause-branches_add_to_one_origin : goal.returns-clause-branches_add_to_one_origin
unfolding digits next_record strip_bom records_from
returns-clause-branches_add_to_one_origin c = refl

pub returns-clause-unmap_of_nilpage : goal.returns-clause-unmap_of_nilpage
unfolding digits next_record strip_bom records_from
returns-clause-unmap_of_nilpage c = refl

pub returns-clause-complete_unmap_removes_all : goal.returns-clause-complete_unmap_removes_all
unfolding digits next_record strip_bom records_from
returns-clause-complete_unmap_removes_all c = refl

pub returns-clause-flush_by_two_words : goal.returns-clause-flush_by_two_words
unfolding digits next_record strip_bom records_from
returns-clause-flush_by_two_words c = refl

pub returns-clause-two_words_in_order : goal.returns-clause-two_words_in_order
unfolding digits next_record strip_bom records_from
returns-clause-two_words_in_order c = refl

pub returns-clause-status_of_root_ends : goal.returns-clause-status_of_root_ends
unfolding digits next_record strip_bom records_from
returns-clause-status_of_root_ends c = refl

pub returns-clause-status_alone : goal.returns-clause-status_alone
unfolding digits next_record strip_bom records_from
returns-clause-status_alone c = refl

pub returns-clause-sibling_keeps_its_status : goal.returns-clause-sibling_keeps_its_status
unfolding digits next_record strip_bom records_from
returns-clause-sibling_keeps_its_status c = refl

pub returns-clause-flush_narrows_caller : goal.returns-clause-flush_narrows_caller
unfolding digits next_record strip_bom records_from
returns-clause-flush_narrows_caller c = refl

pub returns-clause-unmap_of_nothing_held : goal.returns-clause-unmap_of_nothing_held
unfolding digits next_record strip_bom records_from
returns-clause-unmap_of_nothing_held c = refl

pub returns-clause-status_goes_one_origin_up : goal.returns-clause-status_goes_one_origin_up
unfolding digits next_record strip_bom records_from
returns-clause-status_goes_one_origin_up c = refl

pub returns-clause-words_of_several_pages : goal.returns-clause-words_of_several_pages
unfolding digits next_record strip_bom records_from
returns-clause-words_of_several_pages c = refl

pub returns-clause-each_right_revoked : goal.returns-clause-each_right_revoked
unfolding digits next_record strip_bom records_from
returns-clause-each_right_revoked c = refl

pub returns-clause-mappings_left_without_rights : goal.returns-clause-mappings_left_without_rights
unfolding digits next_record strip_bom records_from
returns-clause-mappings_left_without_rights c = refl

pub returns-clause-branch_beside_stays : goal.returns-clause-branch_beside_stays
unfolding digits next_record strip_bom records_from
returns-clause-branch_beside_stays c = refl

pub returns-clause-deep_chain_is_narrowed : goal.returns-clause-deep_chain_is_narrowed
unfolding digits next_record strip_bom records_from
returns-clause-deep_chain_is_narrowed c = refl

pub returns-clause-removed_pages_pass_status_on : goal.returns-clause-removed_pages_pass_status_on
unfolding digits next_record strip_bom records_from
returns-clause-removed_pages_pass_status_on c = refl

pub returns-clause-unmap_of_two_origins : goal.returns-clause-unmap_of_two_origins
unfolding digits next_record strip_bom records_from
returns-clause-unmap_of_two_origins c = refl
