-- One node more has its new place, or stays.
use Rattle.std.proofs.Common.{None, Some, sym, ◌∙◌}
use Rattle.maptree.specs.PlaceMaps.{place_for}
use Rattle.space.proofs.Lists.{blank}
use Rattle.maptree.proofs.ManyRenamed.{one_renamed}
use Rattle.maptree.proofs.replacing.replace_places.Goals.{in-Some, in_default}
use Rattle.maptree.proofs.replacing.replace_places.Goals as goal

pub loop-node-preserved : goal.loop-node-preserved
loop-node-preserved c =
    let nodes = c.args.nodes.now in
    let now = c.loop-node.nodes in
    let i = c.loop-node.node-index in
    let more = one_renamed (place_for c.args.new.now) nodes now i blank c.loop-node-test.true c.loop-node.invariant in
    elim c.match-get.branch [
      | in-Some w ↦ w.nodes-is ∙ more (Some w.in-Some.place) (sym c.get.ensures ∙ w.in-Some.is)
      | in_default w ↦ w.nodes-is ∙ more None (sym c.get.ensures ∙ w.in_default.is)
    ]
