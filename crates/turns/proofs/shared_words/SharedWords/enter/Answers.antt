use Rattle.turns.proofs.Entering.{enters}
use Rattle.turns.proofs.Seats.{some_words}
use Rattle.turns.proofs.shared_words.SharedWords.enter.Goals as goal

pub load_new_seat-seat-requires : goal.load_new_seat-seat-requires
load_new_seat-seat-requires c = (some_words _ _ _ c.self.invariant, enters _ _ _)
