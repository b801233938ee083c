use Rattle.std.proofs.Common.{length, ap, ◌∙◌, sym, subst}
use Rattle.std.specs.Prelude.{slice_get}
use Rattle.pieces.specs.Distinct.{is_none_of}
use Rattle.pieces.specs.Effects.{writes}
use Rattle.turns.specs.SharedWords.{IsSeat}
use Rattle.turns.specs.Rules.{IsMade}
use Rattle.turns.specs.Tables.{indexes_of}
use Rattle.turns.proofs.Seats.{step_is_shared, may, placed, stays}
use Rattle.turns.proofs.shared_words.SharedWords.write.Goals as goal

pub place-at-requires : goal.place-at-requires
place-at-requires c =
    ap (λ ws. is_none_of (indexes_of (length ws) c.self.inside.indexes) c.args.index) c.deref.ensures.value
    ∙ step_is_shared _ _ _ c.self.invariant _ _ (subst (λ s. IsSeat s c.args.seat.now.table_id c.args.seat.now.me) (sym c.self.view_is) c.requires.seat) (writes c.args.index c.args.word) c.requires.next

pub swap-requires : goal.swap-requires
swap-requires c =
    may _ _ _ c.self.invariant _ _ _ _ (subst (λ s. IsSeat s c.args.seat.now.table_id c.args.seat.now.me) (sym c.self.view_is) c.requires.seat) (writes c.args.index c.args.word) c.requires.next _
    (ap (λ ws. slice_get (indexes_of (length ws) c.self.inside.indexes) c.place-at.result) (sym c.deref.ensures.value) ∙ c.place-at.ensures)

pub returns-clause-seat : goal.returns-clause-seat
returns-clause-seat c = stays _ _ _ _ _ _ _ c.requires.seat c.swap.ensures.0 c.swap.ensures.2.0 c.swap.ensures.2.1

pub returns-clause-made : goal.returns-clause-made
returns-clause-made c =
    subst
    (λ i. IsMade i c.args.seat.now.me.0 c.swap.result c.swap.new.seat.me.0)
    (placed _ _ _ c.self.invariant _ _ (subst (λ s. IsSeat s c.args.seat.now.table_id c.args.seat.now.me) (sym c.self.view_is) c.requires.seat) _ _
    (ap (λ ws. slice_get (indexes_of (length ws) c.self.inside.indexes) c.place-at.result) (sym c.deref.ensures.value) ∙ c.place-at.ensures))
    c.swap.ensures.2.1
