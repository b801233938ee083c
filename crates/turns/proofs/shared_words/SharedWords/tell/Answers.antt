use Rattle.std.proofs.Common.{sym, subst}
use Rattle.turns.specs.SharedWords.{IsSeat}
use Rattle.turns.proofs.Seats.{splits_told}
use Rattle.turns.proofs.shared_words.SharedWords.tell.Goals as goal

pub split_seat-requires : goal.split_seat-requires
split_seat-requires c = splits_told _ _ _ c.self.invariant _ _ _ (subst (λ s. IsSeat s c.args.seat.now.table_id c.args.seat.now.me) (sym c.self.view_is) c.requires)
