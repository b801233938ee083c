-- One run more.
use Rattle.std.proofs.Common.{ℕ, ◌+◌, ◌-◌, get_or, sym, ap, ◌∙◌}
use Rattle.std.specs.declared.ops.Range.{Range}
use Rattle.holdings.proofs.Planned.AllKept.{runs_at}
use Rattle.holdings.proofs.prune.count_in_runs.Goals as goal

pub loop-run-preserved : goal.loop-run-preserved
loop-run-preserved c =
    let rs = c.args.runs.now in
    let k = c.loop-run.run-index in
    let none : Range ℕ = record { start = 0; end = 0 } in
    c.in_ok-count.ensures.1 ∙ ap (λ n. n + ((get_or rs k none).end - (get_or rs k none).start)) c.loop-run.invariant
    ∙ sym (runs_at rs k none c.loop-run-test.true)
