use Rattle.std.proofs.Common.{◌<◌, length, ap, ◌∙◌, sym, subst}
use Rattle.std.specs.Prelude.{slice_get}
use Rattle.std.specs.List.Sorted.{IsStrictlyIncreasing}
use Rattle.std.proofs.lemmas.List.{get_or_default}
use Rattle.pieces.specs.Distinct.{is_none_of}
use Rattle.turns.specs.SharedWords.{SharedContent, IsSeat}
use Rattle.turns.specs.Rules.{IsLooked}
use Rattle.turns.specs.Tables.{indexes_of}
use Rattle.turns.proofs.Seats.{may_look, placed, looks_elsewhere}
use Rattle.turns.proofs.shared_words.SharedWords.peek.Goals as goal

pub shared_place-requires-clause-rise : goal.shared_place-requires-clause-rise
shared_place-requires-clause-rise c =
    subst (λ ws. IsStrictlyIncreasing (indexes_of (length ws) c.self.inside.indexes)) (sym c.deref.ensures.value)
    (c.self.invariant.rise (subst (λ (s : SharedContent). 0 < s.opening.watchers) (sym c.self.view_is) c.requires.watched))

pub load-requires : goal.load-requires
load-requires c =
    may_look _ _ _ c.self.invariant _ _ _ _ (subst (λ s. IsSeat s c.args.seat.now.table_id c.args.seat.now.me) (sym c.self.view_is) c.requires.seat) c.in-Some.at c.args.index
    (ap (λ ws. slice_get (indexes_of (length ws) c.self.inside.indexes) c.in-Some.at) (sym c.deref.ensures.value) ∙ c.in-Some.ensures)

pub returns-in-Some-clause-looked : goal.returns-in-Some-clause-looked
returns-in-Some-clause-looked c =
    subst
    (λ i. IsLooked i c.args.seat.now.me.0 c.load.result c.load.new.seat.me.0)
    (placed _ _ _ c.self.invariant _ _ (subst (λ s. IsSeat s c.args.seat.now.table_id c.args.seat.now.me) (sym c.self.view_is) c.requires.seat) _ _
    (ap (λ ws. slice_get (indexes_of (length ws) c.self.inside.indexes) c.in-Some.at) (sym c.deref.ensures.value) ∙ c.in-Some.ensures))
    c.load.ensures.2.1

pub returns-in-None-clause-looked : goal.returns-in-None-clause-looked
returns-in-None-clause-looked c =
    subst (λ x. IsLooked c.args.index c.args.seat.now.me.0 x c.args.seat.now.me.0) (sym (c.index.ensures ∙ get_or_default c.self.inside.words.items c.args.index c.index.result.now 0
    (subst (λ ws. c.args.index < length ws) c.self.invariant.words (subst (λ (s : SharedContent). c.args.index < length s.opening.words) (sym c.self.view_is) c.requires.within))))
    (looks_elsewhere _ _ _ c.self.invariant _ _ (subst (λ s. IsSeat s c.args.seat.now.table_id c.args.seat.now.me) (sym c.self.view_is) c.requires.seat) c.args.index
    (ap (λ ws. is_none_of (indexes_of (length ws) c.self.inside.indexes) c.args.index) (sym c.deref.ensures.value) ∙ c.in-None.ensures))
