-- A node is put right behind another in a list.
use Rattle.std.proofs.Common.{◌+◌, ap, ◌∙◌, arith, rules}
use Rattle.std.specs.Prelude.{insert}
use Rattle.space.specs.declared.node.Node.{Node}
use Rattle.maptree.proofs.AtSeat.{depth_as_read}
use Rattle.maptree.proofs.Insertion.{depth_fits}
use Rattle.maptree.proofs.tree_nodes.Listing.insert_below.Goals as goal

pub overflow_add-depth : goal.overflow_add-depth
overflow_add-depth c =
    let nodes = c.args.self.now.nodes.nodes in
    let low = depth_fits nodes c.args.i c.get-depth.result c.requires.forest c.requires.within c.get-depth.ensures.node in
    let fits = c.get-depth.ensures.fits in
    let within = c.requires.within in
    search (rules, arith, low, fits, within)

pub returns-clause-nodes : goal.returns-clause-nodes
returns-clause-nodes c =
    let nodes = c.args.self.now.nodes.nodes in
    λ d. c.insert.ensures.nodes ∙ ap (λ k. insert nodes (c.args.i + 1) (let n : Node = record { place = c.args.place; depth = k + 1 } in n)) (depth_as_read nodes c.args.i c.get-depth.result d c.requires.within c.get-depth.ensures.node)
