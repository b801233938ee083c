-- The turns so far were dealt.
use Rattle.turns.specs.Closing.{numbers_of}
use Rattle.crew.specs.Crews.{AreDealt}
use Rattle.crew.proofs.dealing.deal.Given as goal

abbrev pub invariant-loop-turn : goal.invariant-loop-turn
invariant-loop-turn g l = AreDealt l.room l.workers (numbers_of l.yielded) l.deques.items
