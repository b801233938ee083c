-- The passes so far are taken back.
use Rattle.crew.specs.Crews.{AreTakenBack}
use Rattle.crew.proofs.settling.take_back.Given as goal

abbrev pub invariant-loop-pass : goal.invariant-loop-pass
invariant-loop-pass g l = AreTakenBack l.initial.owns l.yielded l.owns
