-- The crew has the deques that turns were dealt to.
use Rattle.crew.proofs.shared.work_turns.Given as goal

abbrev pub ghosts-work_deques : goal.ghosts-work_deques
ghosts-work_deques g a = record { crew = a.deques.items }
