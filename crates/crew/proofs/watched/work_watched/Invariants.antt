-- The phase is that of the words that were just shared.
use Rattle.crew.proofs.watched.work_watched.Given as goal

abbrev pub ghosts-work_turns_watched : goal.ghosts-work_turns_watched
ghosts-work_turns_watched g a = record { shared = a.shared.now }
