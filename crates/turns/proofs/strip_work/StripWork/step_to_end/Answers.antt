-- Some nodes more.
use Rattle.std.proofs.Common.{◌∙◌, length, refl, ap, arith}
use Rattle.pieces.specs.Contents.{StripContent}
use Rattle.pieces.specs.Steps.{fold_of, status_in}
use Rattle.turns.specs.Posts.{PostContent}
use Rattle.turns.proofs.StripSteps.{strip_length}
use Rattle.turns.proofs.strip_work.StripWork.step_to_end.Goals as goal

pub loop-post-preserved-then-steps-len : goal.loop-post-preserved-then-steps-len
loop-post-preserved-then-steps-len c =
    let some = c.narrow_some.ensures in
    let steps = c.narrow_some.new.post.steps in
    let w = c.args.shared.now.opening.words in
    let s = c.narrow_some.new.self.of.value in
    let long = strip_length w s some.work.strip (length (fold_of s.fold (status_in w s.indexes))) refl in
    let nodes = ap (λ (x : StripContent). length x.nodes) some.of in
    record {
      post = some.post ∙ ap (λ (p : PostContent). record p { steps = steps }) c.loop-post.invariant.post;
      of = some.of ∙ c.loop-post.invariant.of;
      work = some.work;
      few = omega (arith, some.few, nodes, some.work.strip.indexes, long);
    }
