-- The phase is that of the words that were just shared.
use Rattle.crew.proofs.shared.work.Given as goal

abbrev pub ghosts-work_turns : goal.ghosts-work_turns
ghosts-work_turns g a = record { shared = a.shared.now }
