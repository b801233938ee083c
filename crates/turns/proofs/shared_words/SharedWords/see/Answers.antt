use Rattle.std.proofs.Common.{false, ◌≡◌, length, ap, ◌∙◌, sym, subst}
use Rattle.std.specs.Prelude.{slice_get}
use Rattle.pieces.specs.Distinct.{is_none_of}
use Rattle.turns.specs.SharedWords.{SharedContent, IsSeat}
use Rattle.turns.specs.Rules.{IsSeen}
use Rattle.turns.specs.Tables.{indexes_of}
use Rattle.turns.proofs.Seats.{may_see, placed}
use Rattle.turns.proofs.shared_words.SharedWords.see.Goals as goal

pub place-at-requires : goal.place-at-requires
place-at-requires c =
    ap (λ ws. is_none_of (indexes_of (length ws) c.self.inside.indexes) c.args.index) c.deref.ensures.value
    ∙ ap (λ at. is_none_of at c.args.index) (sym c.self.invariant.indexes) ∙ subst (λ (s : SharedContent). is_none_of s.opening.indexes c.args.index ≡ false) (sym c.self.view_is) c.requires.shared

pub load-requires : goal.load-requires
load-requires c =
    may_see _ _ _ c.self.invariant _ _ _ _ (subst (λ s. IsSeat s c.args.seat.now.table_id c.args.seat.now.me) (sym c.self.view_is) c.requires.seat) c.place-at.result c.args.index
    (ap (λ ws. slice_get (indexes_of (length ws) c.self.inside.indexes) c.place-at.result) (sym c.deref.ensures.value) ∙ c.place-at.ensures)

pub returns-clause-seen : goal.returns-clause-seen
returns-clause-seen c =
    subst
    (λ i. IsSeen i c.args.seat.now.me.0 c.load.result)
    (placed _ _ _ c.self.invariant _ _ (subst (λ s. IsSeat s c.args.seat.now.table_id c.args.seat.now.me) (sym c.self.view_is) c.requires.seat) _ _
    (ap (λ ws. slice_get (indexes_of (length ws) c.self.inside.indexes) c.place-at.result) (sym c.deref.ensures.value) ∙ c.place-at.ensures))
    c.load.ensures.2.1
