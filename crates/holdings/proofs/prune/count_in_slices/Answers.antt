-- One slice more.
use Rattle.std.proofs.Common.{◌+◌, take, sym, ap, ◌∙◌}
use Rattle.space.specs.Slices.{nodes_of}
use Rattle.maptree.specs.Cuts.{count_of}
use Rattle.holdings.proofs.Planned.AllKept.{slices_more}
use Rattle.holdings.proofs.prune.count_in_slices.Goals as goal

pub loop-slice-preserved : goal.loop-slice-preserved
loop-slice-preserved c =
    let ss = c.args.slices.now in
    let k = c.loop-slice.slice-index in
    c.in_ok-count.ensures.1 ∙ ap (λ n. n + c.len.result) c.loop-slice.invariant ∙ ap (λ n. count_of (nodes_of (take k ss)) + n) (c.len.ensures ∙ c.slice-item.result.nodes.ok.0)
    ∙ sym (slices_more ss k c.slice-item.result c.loop-slice-test.true c.slice-item.is)
