-- No node is less deep than before, or than a new one.
use Rattle.std.proofs.Common.{◌≡◌, true, ◌≤◌, ◌++◌, drop, sym, subst, ap, ◌∙◌, rules, arith, length}
use Rattle.maptree.specs.Blocks.{is_least}
use Rattle.maptree.proofs.Depths.{least_less, least_append}
use Rattle.maptree.proofs.block.Block.extend.Goals as goal

pub invariant_of-self : goal.invariant_of-self
invariant_of-self c =
    let nodes = c.self.inside.nodes.items in
    let least = c.min-self-inside-2.result in
    let low : least ≤ c.self.inside.least = search (rules, arith) in
    let new : least ≤ c.least_of.result = search (rules, arith) in
    let items : c.extend_from_slice-extended.new.self.items ≡ nodes ++ c.args.nodes.now = search (rules) in
    let size : length c.extend_from_slice-extended.new.self.items ≤ 128 = search (rules, arith) in
    let behind = c.min-self-inside.result in
    let kept : behind ≤ c.self.inside.behind = search (rules, arith) in
    let come : behind ≤ c.least_behind.result = search (rules, arith) in
    let put_behind : is_least behind (drop 1 (nodes ++ c.args.nodes.now)) ≡ true =
    subst (λ ns. is_least behind (drop 1 (ns ++ c.args.nodes.now)) ≡ true) (sym c.self.view_is)
    (c.least_behind.ensures behind come
    (ap (λ ns. is_least behind (drop 1 ns)) (sym c.self.view_is) ∙ least_less behind c.self.inside.behind (drop 1 nodes) kept c.self.invariant.3)) in
    let room : 128 ≤ c.extend_from_slice-extended.new.self.cap = search (rules, arith) in (
      size,
      room,
      ap (is_least least) items ∙ least_append least nodes c.args.nodes.now (least_less least c.self.inside.least nodes low c.self.invariant.2)
          (least_less least c.least_of.result c.args.nodes.now new c.least_of.ensures),
      ap (λ ns. is_least behind (drop 1 ns)) items ∙ put_behind,
    )
