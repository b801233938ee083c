-- What was counted, and the bounds of depths.
use Rattle.std.proofs.Common.{◌≡◌, List, [], ◌∷◌, ◌++◌, length, drop, sym, ap, ◌∙◌, rules, arith}
use Rattle.std.proofs.lemmas.List.{append-nil}
use Rattle.space.specs.declared.node.Node.{Node}
use Rattle.maptree.specs.Blocks.{nodes_in, is_least, is_most}
use Rattle.maptree.proofs.blocks.Blocks.of.Goals as goal

-- where none is left, the others are all
none_left : (some rest all : List Node) → some ++ rest ≡ all → length rest ≡ 0 → some ≡ all
none_left some [] all is none = sym (append-nil some) ∙ is
none_left some (n ∷ rest) all is none = absurd (omega (arith, none))

pub invariant_of-result : goal.invariant_of-result
invariant_of-result c =
    let none : length c.loop-rest.rest.now ≡ 0 = search (rules, arith) in
    let all = none_left (nodes_in c.loop-rest.blocks.items) c.loop-rest.rest.now c.args.nodes.now c.loop-rest.invariant.all none in
    let size = ap length all in
    let some = c.loop-rest.invariant.some in (
      omega (arith, size),
      omega (arith, none, some),
      search (rules, arith),
      search (rules, arith),
      search (rules, arith),
      search rules,
      search (rules, arith),
      search rules,
      search (rules, arith),
      ap (λ ns. is_least c.least_of.result (drop 1 ns)) all ∙ ap (is_least c.least_of.result) (sym c.behind_first.ensures) ∙ c.least_of.ensures,
      ap (is_most c.most_of.result) all ∙ c.most_of.ensures,
    )
