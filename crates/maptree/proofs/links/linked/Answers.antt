-- One more node.
use Rattle.std.proofs.Common.{◌-◌, ◌++◌, ◌+◌, [], ◌∷◌, length, drop, get_or, ap, ◌∙◌}
use Rattle.std.specs.Prelude.{reverse}
use Rattle.std.specs.List.{slice_get}
use Rattle.maptree.specs.Nodes.{links}
use Rattle.space.proofs.Lists.{blank}
use Rattle.maptree.proofs.Linking.{one_more_link}
use Rattle.maptree.proofs.links.linked.Goals as goal

pub loop-node-preserved : goal.loop-node-preserved
loop-node-preserved c =
    let nodes = c.args.nodes.now in
    let i = c.loop-node.node-index in
    let place = (get_or nodes i blank).place in
    let kept = c.deref.ensures.value ∙ c.truncate.ensures.items in
    let origin = c.copied-origin.ensures ∙ c.last.ensures.value ∙ ap (λ ps. slice_get ps (length ps - 1)) kept in
    let path = c.in_ok-push-2.ensures.items ∙ ap (λ ps. ps ++ place ∷ []) c.truncate.ensures.items in
    let pushed = c.in_ok-push.ensures.items ∙ ap (λ o. c.loop-node.links.items ++ (place, o) ∷ []) origin in
    (λ j. pushed j ++ links (reverse (path j)) (drop (i + 1) nodes))
    ∙ one_more_link nodes _ c.loop-node.links.items c.loop-node.path.items i blank c.loop-node.invariant c.loop-node-test.true
