-- Each round makes a step of the strip.
use Rattle.std.proofs.Common.{◌≡◌, ◌-◌, ◌≤◌, length}
use Rattle.pieces.specs.Steps.{steps}
use Rattle.pieces.specs.declared.piece.Piece.TheVariants as piece
use Rattle.turns.specs.Works.{IsStripWork}
use Rattle.turns.proofs.strip_work.StripWork.step_to_end.Given as goal

abbrev pub invariant-loop-post : goal.invariant-loop-post
invariant-loop-post l = record {
  post : l.post ≡ record l.initial.post { steps = l.post.steps };
  of : l.self.of.value ≡ l.initial.self.of.value;
  work : IsStripWork l.shared.opening.words l.self l.post.steps;
  few : l.post.steps ≤ length (steps l.shared.opening.words (piece.Strip l.self.of.value));
}

abbrev pub decreases-loop-post : goal.decreases-loop-post
decreases-loop-post l = l.len - l.post.steps
