-- Each row computes.
use Rattle.std.proofs.Common.{refl}
use Rattle.std.specs.Fmt.{digits}
use Rattle.csv.specs.Machine.{next_record}
use Rattle.csv.specs.Reading.{strip_bom, records_from}
use Rattle.model.proofs.worked.rows_of_words.Goals as goal

pub returns-clause-smallest_fpage_into_complete_window : goal.returns-clause-smallest_fpage_into_complete_window
unfolding digits next_record strip_bom records_from
returns-clause-smallest_fpage_into_complete_window c = refl

pub returns-clause-send_base_picks_page_of_window : goal.returns-clause-send_base_picks_page_of_window
unfolding digits next_record strip_bom records_from
returns-clause-send_base_picks_page_of_window c = refl

pub returns-clause-window_cuts_larger_fpage : goal.returns-clause-window_cuts_larger_fpage
unfolding digits next_record strip_bom records_from
returns-clause-window_cuts_larger_fpage c = refl

pub returns-clause-half_of_pages_held : goal.returns-clause-half_of_pages_held
unfolding digits next_record strip_bom records_from
returns-clause-half_of_pages_held c = refl

pub returns-clause-complete_space_sent : goal.returns-clause-complete_space_sent
unfolding digits next_record strip_bom records_from
returns-clause-complete_space_sent c = refl

pub returns-clause-nilpage_sent : goal.returns-clause-nilpage_sent
unfolding digits next_record strip_bom records_from
returns-clause-nilpage_sent c = refl

pub returns-clause-sizes_of_words : goal.returns-clause-sizes_of_words
unfolding digits next_record strip_bom records_from
returns-clause-sizes_of_words c = refl

pub returns-clause-ignored_bits : goal.returns-clause-ignored_bits
unfolding digits next_record strip_bom records_from
returns-clause-ignored_bits c = refl

pub returns-clause-first_words_of_items : goal.returns-clause-first_words_of_items
unfolding digits next_record strip_bom records_from
returns-clause-first_words_of_items c = refl

pub returns-clause-blocks_of_larger_side : goal.returns-clause-blocks_of_larger_side
unfolding digits next_record strip_bom records_from
returns-clause-blocks_of_larger_side c = refl

pub returns-clause-pairs_by_runs : goal.returns-clause-pairs_by_runs
unfolding digits next_record strip_bom records_from
returns-clause-pairs_by_runs c = refl

pub returns-clause-space_of_odd_bits : goal.returns-clause-space_of_odd_bits
unfolding digits next_record strip_bom records_from
returns-clause-space_of_odd_bits c = refl

pub returns-clause-each_bit_of_send_base : goal.returns-clause-each_bit_of_send_base
unfolding digits next_record strip_bom records_from
returns-clause-each_bit_of_send_base c = refl

pub returns-clause-send_base_picks_sources : goal.returns-clause-send_base_picks_sources
unfolding digits next_record strip_bom records_from
returns-clause-send_base_picks_sources c = refl

pub returns-clause-size_spells_no_other_pages : goal.returns-clause-size_spells_no_other_pages
unfolding digits next_record strip_bom records_from
returns-clause-size_spells_no_other_pages c = refl

pub returns-clause-sizes_below_a_page : goal.returns-clause-sizes_below_a_page
unfolding digits next_record strip_bom records_from
returns-clause-sizes_below_a_page c = refl

pub returns-clause-bases_without_size : goal.returns-clause-bases_without_size
unfolding digits next_record strip_bom records_from
returns-clause-bases_without_size c = refl

pub returns-clause-sizes_from_a_page : goal.returns-clause-sizes_from_a_page
unfolding digits next_record strip_bom records_from
returns-clause-sizes_from_a_page c = refl

pub returns-clause-sizes_past_the_space : goal.returns-clause-sizes_past_the_space
unfolding digits next_record strip_bom records_from
returns-clause-sizes_past_the_space c = refl

pub returns-clause-bases_past_the_space : goal.returns-clause-bases_past_the_space
unfolding digits next_record strip_bom records_from
returns-clause-bases_past_the_space c = refl

pub returns-clause-bases_between_pages : goal.returns-clause-bases_between_pages
unfolding digits next_record strip_bom records_from
returns-clause-bases_between_pages c = refl

pub returns-clause-last_pages_of_spaces : goal.returns-clause-last_pages_of_spaces
unfolding digits next_record strip_bom records_from
returns-clause-last_pages_of_spaces c = refl

pub returns-clause-pages_past_spaces : goal.returns-clause-pages_past_spaces
unfolding digits next_record strip_bom records_from
returns-clause-pages_past_spaces c = refl

pub returns-clause-complete_spaces : goal.returns-clause-complete_spaces
unfolding digits next_record strip_bom records_from
returns-clause-complete_spaces c = refl

pub returns-clause-nilpages : goal.returns-clause-nilpages
unfolding digits next_record strip_bom records_from
returns-clause-nilpages c = refl

pub returns-clause-pages_of_words : goal.returns-clause-pages_of_words
unfolding digits next_record strip_bom records_from
returns-clause-pages_of_words c = refl

pub returns-clause-pages_of_fpages : goal.returns-clause-pages_of_fpages
unfolding digits next_record strip_bom records_from
returns-clause-pages_of_fpages c = refl

pub returns-clause-sets_by_number : goal.returns-clause-sets_by_number
unfolding digits next_record strip_bom records_from
returns-clause-sets_by_number c = refl

pub returns-clause-bits_of_rights : goal.returns-clause-bits_of_rights
unfolding digits next_record strip_bom records_from
returns-clause-bits_of_rights c = refl

pub returns-clause-sets_met : goal.returns-clause-sets_met
unfolding digits next_record strip_bom records_from
returns-clause-sets_met c = refl

pub returns-clause-sets_joined : goal.returns-clause-sets_joined
unfolding digits next_record strip_bom records_from
returns-clause-sets_joined c = refl

pub returns-clause-sets_without : goal.returns-clause-sets_without
unfolding digits next_record strip_bom records_from
returns-clause-sets_without c = refl

pub returns-clause-sets_within : goal.returns-clause-sets_within
unfolding digits next_record strip_bom records_from
returns-clause-sets_within c = refl

pub returns-clause-items_of_words : goal.returns-clause-items_of_words
unfolding digits next_record strip_bom records_from
returns-clause-items_of_words c = refl

pub returns-clause-last_digits_of_items : goal.returns-clause-last_digits_of_items
unfolding digits next_record strip_bom records_from
returns-clause-last_digits_of_items c = refl

pub returns-clause-control_words_taken : goal.returns-clause-control_words_taken
unfolding digits next_record strip_bom records_from
returns-clause-control_words_taken c = refl

pub returns-clause-numbers_of_control_words : goal.returns-clause-numbers_of_control_words
unfolding digits next_record strip_bom records_from
returns-clause-numbers_of_control_words c = refl

pub returns-clause-bits_of_control_words : goal.returns-clause-bits_of_control_words
unfolding digits next_record strip_bom records_from
returns-clause-bits_of_control_words c = refl

pub returns-clause-control_words_told : goal.returns-clause-control_words_told
unfolding digits next_record strip_bom records_from
returns-clause-control_words_told c = refl

pub returns-clause-status_in_place_of_rights : goal.returns-clause-status_in_place_of_rights
unfolding digits next_record strip_bom records_from
returns-clause-status_in_place_of_rights c = refl

pub returns-clause-pairs_of_blocks : goal.returns-clause-pairs_of_blocks
unfolding digits next_record strip_bom records_from
returns-clause-pairs_of_blocks c = refl
