use Rattle.std.proofs.Common.{◌∙◌, ap, sym, subst}
use Rattle.pieces.specs.Values.{value}
use Rattle.pieces.specs.declared.piece.Piece.TheVariants as piece
use Rattle.turns.specs.Works.{IsWork, IsStripWork, step_count}
use Rattle.turns.proofs.StripSteps.{step_each}
use Rattle.turns.proofs.work.Work.into_found.Goals as goal

pub returns-in-Strip : goal.returns-in-Strip
returns-in-Strip c =
    λ w p given.
    let work = subst (λ s. IsWork w p s (step_count w p)) c.in-Strip.is given in
    let job = subst (λ q. IsStripWork w c.in-Strip.strip (step_count w q)) work.0 work.1 in
    let enough = step_each w c.in-Strip.strip.of.value job.strip in
    let kept = c.into_found-kept.ensures.kept w (step_count w (piece.Strip c.in-Strip.strip.of.value)) job enough in
    let status = c.into_found-kept.ensures.status w (step_count w (piece.Strip c.in-Strip.strip.of.value)) job enough in
    (λ i. record { kept = kept i; status = status i; answers = c.new.ensures.items i }) ∙ ap (value w) (sym work.0)
