use Rattle.turns.proofs.Openings.{phase, shared_within, others_apart}
use Rattle.turns.proofs.Rising.{some_there}
use Rattle.turns.proofs.sharing.watched_indexes.Goals as goal

pub listed_indexes-requires-clause-distinct : goal.listed_indexes-requires-clause-distinct
listed_indexes-requires-clause-distinct c = c.requires.can.distinct

pub listed_indexes-requires-clause-apart : goal.listed_indexes-requires-clause-apart
listed_indexes-requires-clause-apart c = others_apart c.args.words.now c.args.pieces.now c.requires.can

pub returns-clause-phase : goal.returns-clause-phase
returns-clause-phase c =
    λ n.
    phase c.args.words.now c.args.pieces.now c.rising.result.items n c.requires.each c.requires.can c.rising.ensures.distinct (λ i there. c.rising.ensures.all i (c.in_ok-at.ensures.own i there))
    (λ i there. c.rising.ensures.all i (c.in_ok-at.ensures.common i there))

pub returns-clause-some : goal.returns-clause-some
returns-clause-some c = some_there c.in_ok-at.at.items c.rising.result.items c.rising.ensures.all c.in_ok-at.ensures.some

pub returns-clause-within : goal.returns-clause-within
returns-clause-within c =
    shared_within c.args.words.now c.args.pieces.now c.rising.result.items c.requires.can (λ test first own common. c.rising.ensures.kept test (c.in_ok-at.ensures.within test first own common))
