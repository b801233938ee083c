-- The first of all is the first that comes, where there was none.
use Rattle.std.proofs.Common.{◌≡◌, ◌<◌, ◌==◌, ◌∙◌, ℕ, true, false, List, [], ◌∷◌, length, refl, sym, ap, arith, eqb-true, eq-eqb}
use Rattle.space.specs.declared.node.Node.{Node}
use Rattle.maptree.specs.Blocks.{is_least}
use Rattle.maptree.proofs.Depths.{behind_new, behind_more}
use Rattle.maptree.proofs.block.Block.least_behind.Goals as goal

no_node : (n : ℕ) (ns : List Node) → n ≡ length ns → true ≡ (n == 0) → ns ≡ []
no_node n [] same none = refl
no_node n (m ∷ ns) same none = let zero_is = eqb-true n 0 (sym none) in absurd (omega (arith, same, zero_is))

some_node : (n : ℕ) (ns : List Node) → n ≡ length ns → false ≡ (n == 0) → 0 < length ns
some_node n [] same some = absurd (cc (some, eq-eqb n 0 same))
some_node n (m ∷ ns) same some = omega arith

pub returns-then-is_empty : goal.returns-then-is_empty
returns-then-is_empty c a low behind =
    let none = no_node c.self.inside.nodes.len c.args.self.now (c.self.inside.nodes.ok.0 ∙ ap length c.self.view_is) c.if-is_empty.ensures in
    behind_new a c.least_of.result c.args.self.now c.args.nodes.now none low (ap (is_least c.least_of.result) (sym c.behind_first.ensures) ∙ c.least_of.ensures)

pub returns-else-is_empty : goal.returns-else-is_empty
returns-else-is_empty c a low behind =
    let some = some_node c.self.inside.nodes.len c.args.self.now (c.self.inside.nodes.ok.0 ∙ ap length c.self.view_is) c.if-is_empty.ensures in
    behind_more a c.least_of-else-is_empty.result c.args.self.now c.args.nodes.now some low c.least_of-else-is_empty.ensures behind
