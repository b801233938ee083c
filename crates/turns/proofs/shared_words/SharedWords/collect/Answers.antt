use Rattle.std.proofs.Common.{sym, subst}
use Rattle.turns.specs.SharedWords.{IsSeat}
use Rattle.turns.proofs.Seats.{joins}
use Rattle.turns.proofs.shared_words.SharedWords.collect.Goals as goal

pub join_seat-requires : goal.join_seat-requires
join_seat-requires c =
    joins _ _ _ c.self.invariant _ _ _ _ _ _ (subst (λ s. IsSeat s c.args.seat.now.table_id c.args.seat.now.me) (sym c.self.view_is) c.requires.seat)
    (subst (λ s. IsSeat s c.args.other.table_id c.args.other.me) (sym c.self.view_is) c.requires.other)
