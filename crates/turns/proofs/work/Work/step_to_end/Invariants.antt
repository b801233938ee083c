-- Each round makes a step of the piece.
use Rattle.std.proofs.Common.{◌≡◌, ◌-◌, ◌≤◌}
use Rattle.pieces.specs.declared.piece.Piece.{Piece}
use Rattle.turns.specs.Turns.{steps_to_do}
use Rattle.turns.specs.Works.{IsWork}
use Rattle.turns.proofs.work.Work.step_to_end.Given as goal

abbrev pub invariant-loop-self : goal.invariant-loop-self
invariant-loop-self l = record {
  post : l.post ≡ record l.initial.post { steps = l.post.steps };
  work : (p : Piece) → IsWork l.shared.opening.words p l.initial.self l.initial.post.steps → IsWork l.shared.opening.words p l.self l.post.steps;
  few : l.post.steps ≤ steps_to_do l.post;
}

abbrev pub decreases-loop-self : goal.decreases-loop-self
decreases-loop-self l = steps_to_do l.post - l.post.steps
