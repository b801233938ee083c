use Rattle.std.proofs.Common.{◌<◌, length, ◌∙◌, sym, subst}
use Rattle.std.specs.List.{All}
use Rattle.pieces.specs.Phases.{CanBeWorked, IsPiece}
use Rattle.turns.specs.SharedWords.{IsPhase}
use Rattle.turns.specs.Tables.{indexes_of}
use Rattle.turns.proofs.open.Open.open.Goals as goal

pub shared_indexes-requires-clause-each : goal.shared_indexes-requires-clause-each
shared_indexes-requires-clause-each c = subst (All IsPiece) (c.deref.ensures.value ∙ sym c.deref-3.ensures.value) c.learn_are_pieces.ensures

pub shared_indexes-requires-clause-can : goal.shared_indexes-requires-clause-can
shared_indexes-requires-clause-can c =
    subst (CanBeWorked c.deref-2.result.now) (sym c.deref-3.ensures.value) (subst (λ ws. CanBeWorked ws c.args.pieces.items) (sym c.deref-2.ensures.value) c.requires)

pub share-requires-clause-phase : goal.share-requires-clause-phase
share-requires-clause-phase c =
    subst (λ ps. IsPhase (record { words = c.args.words.items; pieces = ps; indexes = indexes_of (length c.args.words.items) c.in_ok-at.at; watchers = 0 })) c.deref-3.ensures.value
    (subst (λ ws. IsPhase (record { words = ws; pieces = c.deref-3.result.now; indexes = indexes_of (length ws) c.in_ok-at.at; watchers = 0 })) c.deref-2.ensures.value c.in_ok-at.ensures.phase)

pub share-requires-clause-some : goal.share-requires-clause-some
share-requires-clause-some c = subst (λ ws. 0 < length (indexes_of (length ws) c.in_ok-at.at)) c.deref-2.ensures.value c.in_ok-at.ensures.some

pub share-requires-clause-within : goal.share-requires-clause-within
share-requires-clause-within c = subst (λ ws. All (λ i. i < length ws) (indexes_of (length ws) c.in_ok-at.at)) c.deref-2.ensures.value c.in_ok-at.ensures.within
