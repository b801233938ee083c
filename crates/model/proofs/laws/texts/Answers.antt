-- What is written reads back.
use Rattle.model.proofs.TextReadings.{decimal_reads_back, hex_reads_back, line_is_of_one_mapping, audit_is_of_one_holdings}
use Rattle.model.proofs.ReplyReadings.{line_is_of_one_reply, end_is_of_two_numbers, refusals_are_told, end_counts_replies, text_is_of_one_result}
use Rattle.model.proofs.laws.texts.Goals as goal

pub returns-clause-decimal_reads_back : goal.returns-clause-decimal_reads_back
returns-clause-decimal_reads_back c = decimal_reads_back

pub returns-clause-hex_reads_back : goal.returns-clause-hex_reads_back
returns-clause-hex_reads_back c = hex_reads_back

pub returns-clause-line_is_of_one_mapping : goal.returns-clause-line_is_of_one_mapping
returns-clause-line_is_of_one_mapping c = line_is_of_one_mapping

pub returns-clause-audit_is_of_one_holdings : goal.returns-clause-audit_is_of_one_holdings
returns-clause-audit_is_of_one_holdings c = audit_is_of_one_holdings

pub returns-clause-line_is_of_one_reply : goal.returns-clause-line_is_of_one_reply
returns-clause-line_is_of_one_reply c = line_is_of_one_reply

pub returns-clause-end_is_of_two_numbers : goal.returns-clause-end_is_of_two_numbers
returns-clause-end_is_of_two_numbers c = end_is_of_two_numbers

pub returns-clause-refusals_are_told : goal.returns-clause-refusals_are_told
returns-clause-refusals_are_told c = refusals_are_told

pub returns-clause-end_counts_replies : goal.returns-clause-end_counts_replies
returns-clause-end_counts_replies c = end_counts_replies

pub returns-clause-text_is_of_one_result : goal.returns-clause-text_is_of_one_result
returns-clause-text_is_of_one_result c = text_is_of_one_result
