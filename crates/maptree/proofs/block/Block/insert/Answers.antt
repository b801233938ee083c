-- No node is less deep than before, or than the new one.
use Rattle.std.proofs.Common.{◌≡◌, true, ◌<◌, ◌≤◌, ◌++◌, ◌∷◌, [], ap, ◌∙◌, rules, arith, length, drop}
use Rattle.std.specs.Prelude.{insert}
use Rattle.std.proofs.lemmas.List.{with_items_is}
use Rattle.std.proofs.lemmas.List.Edits.{length-insert}
use Rattle.maptree.specs.Blocks.{is_least}
use Rattle.maptree.proofs.BlockChanges.{but_last}
use Rattle.maptree.proofs.Depths.{least_less, least_insert, behind_in_front, behind_insert}
use Rattle.maptree.proofs.block.Block.insert.Goals.{then-i-eq0, else-i-eq0}
use Rattle.maptree.proofs.block.Block.insert.Goals as goal

-- the nodes afterwards
items : (c : goal.After-self-3-1) → c.shift_in.new.nodes ≡ insert c.self.inside.nodes.items c.args.i c.args.node
items c =
    let pushed : c.deref_mut.result.now ≡ c.self.inside.nodes.items ++ c.args.node ∷ [] = search rules in
    c.shift_in.ensures ∙ ap (λ l. insert l c.args.i c.args.node) (but_last c.self.inside.nodes.items c.deref_mut.result.now c.args.node pushed)

-- none behind the first is less deep
behind : (c : goal.After-self-3-1) → is_least c.if-i-eq0.self (drop 1 (insert c.self.inside.nodes.items c.args.i c.args.node)) ≡ true
behind c =
    let nodes = c.self.inside.nodes.items in
    elim c.if-i-eq0.branch [
      | then-i-eq0 w ↦
          ap (λ a. is_least a (drop 1 (insert nodes c.args.i c.args.node))) w.self-is ∙ ap (λ k. is_least c.self.inside.least (drop 1 (insert nodes k c.args.node))) w.if-i-eq0.true
          ∙ behind_in_front c.self.inside.least c.args.node nodes c.self.invariant.2
      | else-i-eq0 w ↦
          let least = w.min-self-inside.result in
          let low : least ≤ c.self.inside.behind = search (rules, arith) in
          let here : least ≤ c.args.node.depth = search (rules, arith) in
          let some : 0 < c.args.i = search (rules, arith) in
          let within : c.args.i ≤ length nodes = search (rules, arith) in
          ap (λ a. is_least a (drop 1 (insert nodes c.args.i c.args.node))) w.self-is
          ∙ behind_insert least c.self.inside.behind c.args.i c.args.node nodes some within low here c.self.invariant.3
    ]

pub invariant_of-self : goal.invariant_of-self
invariant_of-self c =
    let nodes = c.self.inside.nodes.items in
    let new = c.shift_in.new.nodes in
    let least = c.min-self-inside-2.result in
    let low : least ≤ c.self.inside.least = search (rules, arith) in
    let here : least ≤ c.args.node.depth = search (rules, arith) in
    let is = items c in
    let longer = ap length is in
    let one = length-insert nodes c.args.i c.args.node (search (rules, arith)) in
    let same : length new ≡ c.push-pushed.new.self.len = search (rules, arith, longer, one) in
    let now = with_items_is c.push-pushed.new.self new same in
    let size : length new ≤ 128 = search (rules, arith, longer, one) in
    let room : 128 ≤ c.push-pushed.new.self.cap = search (rules, arith) in
    (search (rules, arith, now, size), room, ap (is_least least) (now ∙ is) ∙ least_insert least c.args.i c.args.node nodes here (least_less least c.self.inside.least nodes low c.self.invariant.2), ap (λ ns. is_least c.if-i-eq0.self (drop 1 ns)) (now ∙ is) ∙ behind c)
