use Rattle.std.proofs.Common.{length}
use Rattle.turns.proofs.Openings.{phase, shared_within, others_apart}
use Rattle.turns.proofs.AllWords.{all_phase, all_are_within}
use Rattle.turns.proofs.sharing.shared_indexes.Goals as goal

pub returns-then-are_all_shared-clause-phase : goal.returns-then-are_all_shared-clause-phase
returns-then-are_all_shared-clause-phase c = all_phase c.args.words.now c.args.pieces.now 0 c.requires.each c.requires.can

pub returns-then-are_all_shared-clause-within : goal.returns-then-are_all_shared-clause-within
returns-then-are_all_shared-clause-within c = all_are_within (length c.args.words.now)

pub listed_indexes-requires-clause-distinct : goal.listed_indexes-requires-clause-distinct
listed_indexes-requires-clause-distinct c = c.requires.can.distinct

pub listed_indexes-requires-clause-apart : goal.listed_indexes-requires-clause-apart
listed_indexes-requires-clause-apart c = others_apart c.args.words.now c.args.pieces.now c.requires.can

pub returns-clause-phase : goal.returns-clause-phase
returns-clause-phase c =
    phase c.args.words.now c.args.pieces.now c.in_ok-at.at.items 0 c.requires.each c.requires.can c.in_ok-at.ensures.distinct c.in_ok-at.ensures.own c.in_ok-at.ensures.common

pub returns-clause-within : goal.returns-clause-within
returns-clause-within c = shared_within c.args.words.now c.args.pieces.now c.in_ok-at.at.items c.requires.can c.in_ok-at.ensures.within
