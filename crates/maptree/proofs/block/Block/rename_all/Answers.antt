-- Another place changes no depth.
use Rattle.std.proofs.Common.{◌≡◌, ◌≤◌, ap, ◌∙◌, rules, arith, length, drop, Option, List, refl}
use Rattle.std.proofs.lemmas.List.{length-map, with_items_is}
use Rattle.maptree.specs.Blocks.{is_least}
use Rattle.space.specs.declared.place.Place.{Place}
use Rattle.space.specs.declared.node.Node.{Node}
use Rattle.maptree.specs.PlaceMaps.{place_for}
use Rattle.maptree.specs.Renamings.{nodes_renamed}
use Rattle.maptree.proofs.Depths.{least_renamed, behind_renamed}
use Rattle.maptree.proofs.block.Block.rename_all.Goals as goal

length_renamed : (c : goal.After-self-1) (new : Place → Option Place) (nodes : List Node) → nodes ≡ c.self.inside.nodes.items → c.replace_places.new.nodes ≡ nodes_renamed new nodes → length c.replace_places.new.nodes ≡ c.self.inside.nodes.len
length_renamed c new nodes from is =
    let size : length (nodes_renamed new nodes) ≡ length nodes = length-map nodes _ in
    let same = ap length is in
    let old = ap length from in
    search (rules, arith, size, same, old)

pub invariant_of-self : goal.invariant_of-self
invariant_of-self c =
    let nodes = c.self.inside.nodes.items in
    let new = place_for c.args.new.now in
    let is : c.replace_places.new.nodes ≡ nodes_renamed new nodes = c.replace_places.ensures ∙ ap (nodes_renamed new) c.deref_mut.ensures.value in
    let same : length c.replace_places.new.nodes ≡ c.self.inside.nodes.len = length_renamed c new nodes refl is in
    let items = with_items_is c.self.inside.nodes c.replace_places.new.nodes same in
    let size = ap length items in
    let few : length nodes ≤ 128 = c.self.invariant.0 in
    (search (rules, arith, size, same, few), c.self.invariant.1, ap (is_least c.self.inside.least) (items ∙ is) ∙ least_renamed new c.self.inside.least nodes ∙ c.self.invariant.2, ap (λ ns. is_least c.self.inside.behind (drop 1 ns)) (items ∙ is) ∙ behind_renamed new c.self.inside.behind nodes ∙ c.self.invariant.3)
