-- The bounds say so.
use Rattle.std.proofs.Common.{◌≡◌, ap, subst}
use Rattle.std.proofs.lemmas.Bool.{leb-true}
use Rattle.maptree.specs.Blocks.{nodes_in, IsFan}
use Rattle.maptree.proofs.Deepest.{fan_of_bounds}
use Rattle.maptree.proofs.blocks.Blocks.is_fan.Goals as goal

pub returns-then-self-gt0 : goal.returns-then-self-gt0
returns-then-self-gt0 c = λ yes.
    let items = c.self.inside.blocks.items in
    let same : items ≡ c.args.self.now.blocks = ap (λ v. v.blocks) c.self.view_is in
    subst (λ l. IsFan (nodes_in l)) same (fan_of_bounds (nodes_in items) c.self.inside.behind c.self.inside.deepest c.if-self-gt0.true (leb-true _ _ yes) c.self.invariant.9 c.self.invariant.10)
