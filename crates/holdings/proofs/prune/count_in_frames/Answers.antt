-- One frame more.
use Rattle.std.proofs.Common.{◌+◌, ◌≤◌, take, sym, ap, subst, ◌∙◌}
use Rattle.std.specs.List.{All}
use Rattle.pieces.specs.declared.runs.FrameRuns.{FrameRuns}
use Rattle.holdings.specs.Inner.StripPlans.{count_in_runs, count_in_frames}
use Rattle.holdings.proofs.Planned.AllKept.{frames_more}
use Rattle.holdings.proofs.prune.count_in_frames.Goals as goal

pub count_in_runs-requires : goal.count_in_runs-requires
count_in_runs-requires c =
    subst (All (λ r. r.start ≤ r.end)) (sym c.as_slice.ensures)
    (subst (λ (f : FrameRuns). All (λ r. r.start ≤ r.end) f.runs) (sym c.frame-item.is) (c.requires c.loop-frame.frame-index c.frame-item.result c.loop-frame-test.true))

pub loop-frame-preserved : goal.loop-frame-preserved
loop-frame-preserved c =
    let fs = c.args.frames.now in
    let k = c.loop-frame.frame-index in
    c.in_ok-count.ensures.1 ∙ ap (λ n. n + c.in_ok-count_in_runs.field-0) c.loop-frame.invariant
    ∙ ap (λ n. count_in_frames (take k fs) + n) (c.in_ok-count_in_runs.ensures ∙ ap count_in_runs c.as_slice.ensures)
    ∙ sym (frames_more fs k c.frame-item.result c.loop-frame-test.true c.frame-item.is)
