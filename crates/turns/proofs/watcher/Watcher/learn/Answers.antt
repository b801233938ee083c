use Rattle.std.proofs.Common.{◌≤◌, ◌∙◌, sym, subst}
use Rattle.turns.specs.SharedWords.{SharedContent, IsPhase}
use Rattle.turns.specs.Views.{AtLeast}
use Rattle.turns.specs.Watching.{WatcherContent, KnowsTheEnd, steps_of_piece}
use Rattle.turns.proofs.Looking.{notes_first, notes_second}
use Rattle.turns.proofs.Moments.{told_of}
use Rattle.turns.proofs.Seats.{shared_is}
use Rattle.turns.proofs.watcher.Watcher.learn.Goals as goal
use Rattle.turns.proofs.watcher.Watcher.learn.Goals.{After-collect}

-- the watcher as it is now
abbrev now : After-collect → WatcherContent
now c = record { shared = record { id = c.collect.new.seat.table_id; opening = c.collect.new.seat.me.0.opening }; number = c.self.inside.number; notes = c.collect.new.seat.me.0.notes }

told : (c : After-collect) → KnowsTheEnd (now c) c.args.receipt.piece
told c =
    λ counts all.
    subst (λ (s : SharedContent). steps_of_piece s c.args.receipt.piece ≤ counts c.args.receipt.piece) (c.requires.receipt ∙ sym (shared_is _ _ _ c.collect.ensures.0))
    (c.into_seat.ensures.ended counts (notes_second c.self.inside.seat.me.0.notes _ counts (subst (λ ns. AtLeast ns counts) c.collect.ensures.2 all)))

pub returns-clause-kept : goal.returns-clause-kept
returns-clause-kept c =
    λ counts all.
    subst (λ (w : WatcherContent). AtLeast w.notes counts) c.self.view_is (notes_first c.self.inside.seat.me.0.notes _ counts (subst (λ ns. AtLeast ns counts) c.collect.ensures.2 all))

pub returns-clause-told : goal.returns-clause-told
returns-clause-told c = told c

pub returns-clause-ended : goal.returns-clause-ended
returns-clause-ended c = told_of (now c) (subst (λ (s : SharedContent). IsPhase s.opening) (sym (shared_is _ _ _ c.collect.ensures.0)) c.learn_can_be_worked.ensures) c.args.receipt.piece (told c)
