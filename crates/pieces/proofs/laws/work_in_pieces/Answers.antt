-- Of any words and lists.
use Rattle.pieces.proofs.InPieces.{touches_in_pieces, answers_in_pieces, links_in_pieces, moves_in_pieces, links_change, moves_change, status_joined, kept_joined}
use Rattle.pieces.proofs.InOrder.{words_in_order, answers_one_by_one}
use Rattle.pieces.proofs.WholeStrips.{strips_in_pieces}
use Rattle.pieces.proofs.laws.work_in_pieces.Goals as goal

pub returns-clause-touches_in_pieces : goal.returns-clause-touches_in_pieces
returns-clause-touches_in_pieces c = λ w parts. (touches_in_pieces w parts, answers_in_pieces w parts)

pub returns-clause-links_in_pieces : goal.returns-clause-links_in_pieces
returns-clause-links_in_pieces c = links_in_pieces

pub returns-clause-moves_in_pieces : goal.returns-clause-moves_in_pieces
returns-clause-moves_in_pieces c = moves_in_pieces

pub returns-clause-links_in_pieces_change : goal.returns-clause-links_in_pieces_change
returns-clause-links_in_pieces_change c = links_change

pub returns-clause-moves_in_pieces_change : goal.returns-clause-moves_in_pieces_change
returns-clause-moves_in_pieces_change c = moves_change

pub returns-clause-strips_join : goal.returns-clause-strips_join
returns-clause-strips_join c = λ w ss each. (status_joined w ss, kept_joined w ss each)

pub returns-clause-accesses_in_list_order : goal.returns-clause-accesses_in_list_order
returns-clause-accesses_in_list_order c = λ w packs ts. (words_in_order w packs ts, answers_one_by_one w packs ts)

pub returns-clause-strips_in_pieces : goal.returns-clause-strips_in_pieces
returns-clause-strips_in_pieces c = strips_in_pieces
